-- What the parts of the reader and of the checker answer to each other. No public clause has these words.
use Rattle.std.specs.Prelude.{◌≡◌, ℕ, List, [], Option, None, Some, Result, Ok, Err}
use Rattle.std.specs.Borrow.{Bor}
use Rattle.cert_check.specs.Reading.{parts}
use Rattle.cert_check.specs.declared.refusal.Verdict.{Verdict}
use Rattle.cert_check.specs.declared.refusal.Verdict.TheVariants.{Yes, No}
use Rattle.cert_check.specs.declared.refusal.Stop.{Stop}
use Rattle.cert_check.specs.declared.refusal.Stop.TheVariants as stop

-- this is the first fault of an answer, or memory ran out
abbrev pub Fails : Stop → Verdict → Type 0
Fails (stop.Fault line why) verdict = verdict ≡ No line why
Fails stop.Memory verdict = Unit {0}

-- some checks found no fault, or stopped at the first one
abbrev pub Judges : {T : Type 0} → Result T Stop → Verdict → Type 0
Judges (Ok x) verdict = verdict ≡ Yes
Judges (Err e) verdict = Fails e verdict

-- the parts of what is left of a text, if anything is
abbrev pub parts_left : (byte : ℕ) → Option (Bor (List ℕ)) → List (List ℕ)
parts_left byte None = []
parts_left byte (Some rest) = parts byte rest.now
