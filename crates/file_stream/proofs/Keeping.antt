-- A file that is kept as far as it is not too long.
use Rattle.std.proofs.Common.{◌≡◌, ℕ, ◌<◌, Bool, true, false, List, [], ◌∷◌, ◌++◌, length, length-append, sym, ap, ◌∙◌, arith}
use Rattle.std.proofs.Common.{true≢false}
use Rattle.file_stream.specs.Cutters.{Keeps}
use Rattle.pla_reader.specs.declared.reading.TheConstants.{MOST_BYTES}

pub long_more : (long : Bool) (kept text more : List ℕ) (b : ℕ) → long ≡ true → Keeps long kept text → Keeps long more (text ++ b ∷ [])
long_more true kept text more b e k = omega (arith, length-append text (b ∷ []))
long_more false kept text more b e k = absurd (true≢false (sym e))

pub full_more : (long : Bool) (kept text more : List ℕ) (b : ℕ) → long ≡ false → length kept ≡ MOST_BYTES → Keeps long kept text
    → Keeps true more (text ++ b ∷ [])
full_more true kept text more b e l k = absurd (true≢false e)
full_more false kept text more b e l k = omega (arith, length-append text (b ∷ []), ap length k.0)

pub kept_more : (long : Bool) (kept text more : List ℕ) (b : ℕ) → long ≡ false → length kept < MOST_BYTES → more ≡ kept ++ b ∷ []
    → Keeps long kept text
    → Keeps long more (text ++ b ∷ [])
kept_more true kept text more b e l m k = absurd (true≢false e)
kept_more false kept text more b e l m k = (m ∙ ap (λ t. t ++ b ∷ []) k.0, omega (arith, length-append text (b ∷ []), ap length k.0))
