-- The rule of the shared table makes it sound.
use Rattle.std.proofs.Common.{◌≡◌, ℕ, ◌^◌, inl, map, length, sym, subst, ⊎_elim, arith}
use Rattle.std.proofs.lemmas.Bool.{cases_lt}
use Rattle.std.proofs.lemmas.List.{get_or-drop, get_or_past, length-drop}
use Rattle.std.proofs.lemmas.List.Elements.{All-map, All-weaker}
use Rattle.lattice.specs.Words.{Family, IsHandle, IsVacantOrTrue, cache_bits}
use Rattle.lattice.proofs.Diagrams.{denotes_handle, sound_on, sound_table}
use Rattle.unique_table.specs.Rule.{IsPair}
use Rattle.unique_table.specs.RuleLaws.{RuleIsSound, SeatsAreSound, cache_words, node_words}

pub rule_is_sound : RuleIsSound
rule_is_sound about s rule =
    let whole = rule.0 in let n : ℕ = 2 ^ about.bits in let c : ℕ = cache_bits about.bits in
    let ws = node_words about s.words in let table = whole.nodes in
    let size : length (cache_words about s.words) ≡ 2 ^ c = omega (arith, whole.size, length-drop n s.words) in
    sound_table about.bits about.vars ws table.canonical (cache_words about s.words) size
    (λ place. ⊎_elim
    (λ less. subst (IsVacantOrTrue c about.vars ws place) (sym (get_or-drop n s.words place 0)) (whole.cache place less))
    (λ past. inl (get_or_past (cache_words about s.words) place 0 (omega (arith, size, past)))) (cases_lt place (2 ^ c)))

pub seats_are_sound : SeatsAreSound
seats_are_sound about s rule id v here live =
    let ws = node_words about s.words in let table = (rule.0).nodes in let fits = rule.1 id v here live in
    sound_on about.bits about.vars ws table.canonical v.history (map (λ (p : ℕ × Family). p.0) v.known) fits.history
    (All-map (IsHandle ws) (λ (p : ℕ × Family). p.0) v.known
    (All-weaker (IsPair about.vars ws) (λ (p : ℕ × Family). IsHandle ws p.0) (λ p is. denotes_handle about.vars ws is) v.known fits.known))
