-- Histories: which are legal, how many words they were refused, and what one that fits a table says of its entries.
use Rattle.std.proofs.Common.{All, Contains, ◌≡◌, ◌≢◌, ℕ, suc, ◌^◌, ◌<◌, true, List, [], ◌∷◌, ◌++◌, slice_index, sym, refl, ◌∙◌, subst}
use Rattle.std.proofs.Common.{arith, ◌+◌, ◌-◌, ◌≤◌, min, zero, length, slice_index_or}
use Rattle.std.proofs.Props.{props}
use Rattle.std.proofs.lemmas.List.Elements.{All-nil, All-cons, All-weaker}
use Rattle.lattice.specs.Words.{has, IsCanonical, KeepsWords, HoldsWord, IsFullFor, FitsFrom, FitsHistory, Agrees, handles_of, LegalFrom}
use Rattle.lattice.specs.Words.{IsLegal, refused, refusals_of, one_more}
use Rattle.lattice.specs.declared.entry.Entry.{Entry}
use Rattle.lattice.specs.declared.entry.Entry.TheVariants.{Met, Ask, Full}
use Rattle.lattice.proofs.Families.{has_none, has_tail, has-cons}
use Rattle.lattice.proofs.Tables.{filled_within, grows_filled}

abbrev Among : List ℕ → List ℕ → Type 0
Among xs ys = (h : ℕ) → has xs h ≡ true → has ys h ≡ true

among_more : (x : ℕ) (xs ys : List ℕ) → Among xs ys → Among (x ∷ xs) (x ∷ ys)
among_more x xs ys sub h is = grind (arith, has-cons x xs h, has-cons x ys h, sub h)

module _ (size : ℕ) (ws ws' : List ℕ) (keeps : KeepsWords ws ws') where
  holds_grows : (h w : ℕ) → HoldsWord ws h w → HoldsWord ws' h w
  holds_grows h w is =
      record { at = is.at; is = is.is; found = keeps is.at (λ none. is.some (sym is.found ∙ none)) ∙ is.found; some = is.some }

  -- of a table that keeps these words, and with more handles met before
  fits_with : (met met' : List ℕ) → Among met met' → (es : List Entry) → FitsFrom size ws met es → FitsFrom size ws' met' es
  fits_with met met' sub [] fits = tt
  fits_with met met' sub (Met h w ∷ es) fits =
      (holds_grows h w fits.0, fits_with (h ∷ met) (h ∷ met') (among_more h met met' sub) es fits.1)
  fits_with met met' sub (Ask h w ∷ es) fits = (holds_grows h w fits.0, fits_with met met' sub es fits.1)
  fits_with met met' sub (Full w ∷ es) fits = let full : IsFullFor size ws met w = fits.0 in
      let full' : IsFullFor size ws' met' w = record {
        filled = λ s less. grows_filled ws ws' keeps s (full.filled s less);
        other = λ s less is. full.other s less (sym (keeps s (full.filled s less)) ∙ is);
        all_met = λ s less. sub (suc (suc s)) (full.all_met s less);
      } in (full', fits_with met met' sub es fits.1)

  -- A history that fits a table fits it while the words of the table are kept.
  pub fits_grows : (met : List ℕ) (es : List Entry) → FitsFrom size ws met es → FitsFrom size ws' met es
  fits_grows met = fits_with met met (λ h is. is)

fits_append_from : (size : ℕ) (ws met : List ℕ) (es es' : List Entry) → FitsFrom size ws met es → FitsHistory size ws es'
    → FitsFrom size ws met (es ++ es')
fits_append_from size ws met [] es' fits fits' = fits_with size ws ws (λ j is. refl) [] met (λ h. has_none h) es' fits'
fits_append_from size ws met (Met h w ∷ es) es' fits fits' = (fits.0, fits_append_from size ws (h ∷ met) es es' fits.1 fits')
fits_append_from size ws met (_ ∷ es) es' fits fits' = (fits.0, fits_append_from size ws met es es' fits.1 fits')

-- Two histories that fit a table fit it one after the other.
pub fits_append : (size : ℕ) (ws : List ℕ) (es es' : List Entry) → FitsHistory size ws es → FitsHistory size ws es'
    → FitsHistory size ws (es ++ es')
fits_append size ws = fits_append_from size ws []

module _ (bits vars : ℕ) (ws : List ℕ) (can : IsCanonical bits vars ws) where
  abbrev Held : ℕ × ℕ → Type 0
  Held p = HoldsWord ws p.0 p.1

  -- two slots hold one word only where they are one
  agrees : (pairs : List (ℕ × ℕ)) (h w : ℕ) → All Held pairs → HoldsWord ws h w → Agrees pairs h w
  agrees pairs h w all is = All-weaker Held (λ p. (p.1 ≡ w → p.0 ≡ h) × (p.0 ≡ h → p.1 ≡ w))
      (λ p held. (λ same. grind (arith, can.apart held.at is.at, held, is), λ same. grind (arith, held, is))) pairs all

  legal_from : (met : List ℕ) (pairs : List (ℕ × ℕ)) → Among met (handles_of pairs) → All Held pairs → (es : List Entry)
      → FitsFrom (2 ^ bits) ws met es → LegalFrom (2 ^ bits) pairs es
  legal_from met pairs sub all [] fits = tt
  legal_from met pairs sub all (Met h w ∷ es) fits =
      (agrees pairs h w all fits.0, legal_from (h ∷ met) _ (among_more h met _ sub) (All-cons Held (h, w) pairs fits.0 all) es fits.1)
  legal_from met pairs sub all (Ask h w ∷ es) fits =
      (agrees pairs h w all fits.0, legal_from met _ (λ k c. has_tail h _ k (sub k c)) (All-cons Held (h, w) pairs fits.0 all) es fits.1)
  legal_from met pairs sub all (Full w ∷ es) fits = let full : IsFullFor (2 ^ bits) ws met w = fits.0 in
      let others = All-weaker Held (λ p. p.1 ≢ w) (λ p held same.
      let inside = filled_within ws held.at (λ none. held.some (sym held.found ∙ none)) in
      full.other held.at (omega (arith, can.size)) (held.found ∙ same)) pairs all in
      (λ s less. sub (suc (suc s)) (full.all_met s less), others, legal_from met pairs sub all es fits.1)

  -- A history that fits a canonical table is legal by itself.
  pub legal : (es : List Entry) → FitsHistory (2 ^ bits) ws es → IsLegal (2 ^ bits) es
  legal = legal_from [] [] (λ h c. c) (All-nil Held)

LegalFrom-prop : (size : ℕ) (pairs : List (ℕ × ℕ)) (es : List Entry) → IsProp (LegalFrom size pairs es)
LegalFrom-prop size pairs [] = hlevel
LegalFrom-prop size pairs (Met h w ∷ es) = hlevel (LegalFrom-prop size ((h, w) ∷ pairs) es, props)
LegalFrom-prop size pairs (Ask h w ∷ es) = hlevel (LegalFrom-prop size ((h, w) ∷ pairs) es, props)
LegalFrom-prop size pairs (Full w ∷ es) = hlevel (LegalFrom-prop size pairs es, props)

-- A history is legal in one way at most.
pub IsLegal-prop : (size : ℕ) (es : List Entry) → IsProp (IsLegal size es)
IsLegal-prop size = LegalFrom-prop size []

-- The refusals of two histories, one after the other, are those of both.
pub refused-append : (es fs : List Entry) → refused (es ++ fs) ≡ refused es + refused fs
refused-append [] fs = omega arith
refused-append (Full w ∷ es) fs = omega (arith, refused-append es fs)
refused-append (_ ∷ es) fs = refused-append es fs

-- The count of refusals of two histories, one after the other, is that of both, up to its greatest value.
pub refusals_of-append : (es fs : List Entry) → refusals_of (es ++ fs) ≡ min (refusals_of es + refusals_of fs) (2 ^ 64 - 1)
refusals_of-append es fs = omega (arith, refused-append es fs)

-- More entries leave the count of refusals or raise it.
pub refusals_of-grows : (es fs : List Entry) → refusals_of es ≤ refusals_of (es ++ fs)
refusals_of-grows es fs = omega (arith, refused-append es fs)

-- Entries without a refusal leave the count of refusals.
pub refusals_of-quiet : (es fs : List Entry) → refused fs ≡ 0 → refusals_of (es ++ fs) ≡ refusals_of es
refusals_of-quiet es fs none = omega (arith, refused-append es fs)

-- One refusal raises the count of refusals.
pub refusals_of-refused : (es fs : List Entry) → refused fs ≡ 1 → refusals_of (es ++ fs) ≡ one_more (refusals_of es)
refusals_of-refused es fs one = omega (arith, refused-append es fs)

-- The count of refusals is a number of 64 bits.
pub refusals_of-below : (es : List Entry) → refusals_of es < 2 ^ 64
refusals_of-below es = omega arith

met_holds : (size : ℕ) (ws met : List ℕ) (es : List Entry) (h w k : ℕ) → k < length es
    → slice_index_or es k (Met h w) ≡ Met h w → FitsFrom size ws met es → HoldsWord ws h w
met_holds size ws met [] h w k less is fits = absurd (omega arith)
met_holds size ws met (Met h' w' ∷ es) h w zero less is fits =
    let e : h' ≡ h = cc in let e' : w' ≡ w = cc in subst (λ x. HoldsWord ws h x) e' (subst (λ x. HoldsWord ws x w') e fits.0)
met_holds size ws met (_ ∷ es) h w zero less is fits = cc
met_holds size ws met (Met h' w' ∷ es) h w (suc k) less is fits = met_holds size ws (h' ∷ met) es h w k (omega arith) is fits.1
met_holds size ws met (_ ∷ es) h w (suc k) less is fits = met_holds size ws met es h w k (omega arith) is fits.1

-- The slot of a place that was met holds the word of the entry.
pub met_slot : (size : ℕ) (ws : List ℕ) (es : List Entry) (at w : ℕ) → FitsHistory size ws es → Contains es (Met (at + 2) w)
    → (w ≢ 0) × (slice_index ws at ≡ w)
met_slot size ws es at w fits has =
    let held = met_holds size ws [] es (at + 2) w has.0 has.1 has.2 fits in let same : held.at ≡ at = omega (arith, held.is) in
    (held.some, cc)

-- The handle of a slot with a word holds that word.
pub slot_holds : (ws : List ℕ) (at w : ℕ) → slice_index ws at ≡ w → w ≢ 0 → HoldsWord ws (at + 2) w
slot_holds ws at w found some = record { at = at; is = omega arith; found = found; some = some }
