-- The parts of the answer's text, as the code puts them together, and the variables of a monomial from its first one on.
use Rattle.std.proofs.Common.{◌≡◌, ℕ, suc, ◌+◌, ◌-◌, ◌^◌, ◌<◌, ◌≤◌, List, [], ◌∷◌, length, get_or, refl, sym, ap}
use Rattle.std.proofs.Common.{◌∙◌, subst, arith, rules, zero, ◌++◌, take, drop, map, reverse, codes, add-one}
use Rattle.std.proofs.lemmas.Grind.{common_steps}
use Rattle.lattice.specs.Words.{IsFamily}
use Rattle.lattice.proofs.Polynomials.{terms_below}
use Rattle.anf_printer.specs.Text.{Answer, shown_answer, output_text, texts_of, monomial_text, sum_text, polynomial_text}
use Rattle.std.specs.List.{All, flat_map}
use Rattle.std.proofs.lemmas.List.{take_all, length-map, get_or-map, reverse-reverse}
use Rattle.std.proofs.lemmas.List.Elements.{All-take, All-drop}
use Rattle.lattice.specs.declared.kind.Mode.{Mode}
use Rattle.anf_printer.specs.declared.answer.Shown.{Shown}

pub polynomial_text_none : (names : List (List ℕ)) (terms : List ℕ) → length terms < 1 → polynomial_text names (reverse terms) ≡ codes "0"
unfolding sum_text
polynomial_text_none names [] few = refl
polynomial_text_none names (m ∷ terms) few = absurd (omega arith)

-- the first term, and the others as a pattern cuts them off
pub polynomial_text_some : (names : List (List ℕ)) (terms : List ℕ) (m : ℕ) → 1 ≤ length terms → m ≡ get_or terms 0 m
    → polynomial_text names (reverse terms) ≡ monomial_text names m ++ flat_map (λ m. codes " + " ++ monomial_text names m)
    (take (length terms - 1) (drop 1 terms))
unfolding sum_text
polynomial_text_some names [] first some is = absurd (omega arith)
polynomial_text_some names (m ∷ terms) first some is = grind (arith, common_steps, take_all, reverse-reverse)

pub others_below : (n : ℕ) (terms : List ℕ) → IsFamily n (reverse terms) → All (λ m. m < 2 ^ n) (take (length terms - 1) (drop 1 terms))
others_below n terms family = search (rules, arith, All-take, All-drop, terms_below)

pub element_is_family : (n : ℕ) (elements : List (List ℕ)) (i : ℕ) (e : List ℕ) → All (IsFamily n) (map reverse elements)
    → i < length elements → e ≡ get_or elements i e → IsFamily n (reverse e)
element_is_family n elements i e families less is =
    subst (IsFamily n) (get_or-map reverse elements i e (reverse e) less ∙ sym (ap reverse is))
    (families i (reverse e) (rw (length-map elements reverse) less))

pub texts_of_none : (mode : Mode) (names outputs : List (List ℕ)) (answers : List Answer)
    → texts_of mode names (take 0 outputs) (take 0 answers) ≡ []
unfolding texts_of
texts_of_none mode names outputs answers = refl

pub texts_of_more : (mode : Mode) (names outputs : List (List ℕ)) (answers : List Answer) (i : ℕ) (name : List ℕ) (a : Answer)
    → i < length outputs → i < length answers → name ≡ get_or outputs i name → a ≡ get_or answers i a
    → texts_of mode names (take (i + 1) outputs) (take (i + 1) answers) ≡ texts_of mode names (take i outputs) (take i answers) ++
    output_text mode names name a ∷ []
unfolding texts_of
texts_of_more mode names [] answers i name a less short is same = absurd (omega arith)
texts_of_more mode names (n ∷ outputs) [] i name a less short is same = absurd (omega arith)
texts_of_more mode names (n ∷ outputs) (b ∷ answers) zero name a less short is same = cc
texts_of_more mode names (n ∷ outputs) (b ∷ answers) (suc i) name a less short is same =
    search (rules, arith, add-one, texts_of_more mode names outputs answers i name a (omega arith) (omega arith) is same)

-- one more pair of a name and what is shown
pub texts_of_next : (mode : Mode) (names outputs : List (List ℕ)) (shown : List Shown) (i j : ℕ) (name : List ℕ) (s : Shown)
    → i < length outputs → i < length shown → name ≡ get_or outputs i name → s ≡ get_or shown i s → j ≡ i + 1
    → texts_of mode names (take j outputs) (take j (map shown_answer shown)) ≡ texts_of mode names (take i outputs)
    (take i (map shown_answer shown)) ++ output_text mode names name (shown_answer s) ∷ []
texts_of_next mode names outputs shown i j name s less short is same next = search (rules, arith, texts_of_more, length-map, get_or-map)
