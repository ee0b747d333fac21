-- What makes a table sound: its node words are canonical, and its cache words vacant or true.
use Rattle.std.proofs.Common.{◌≡◌, ◌^◌, ℕ, suc, inl, inr, List, length, slice_index, All, sym, ap, ◌∙◌, subst}
use Rattle.std.proofs.lemmas.List.Elements.{All-weaker}
use Rattle.lattice.specs.declared.entry.Entry.{Entry}
use Rattle.lattice.specs.Words.{FitsHistory, HasFamily, IsCanonical, IsHandle, IsKeptWord, IsSoundOn, IsSoundTable, IsTrueWord}
use Rattle.lattice.specs.Words.{IsVacantOrTrue, cache_bits, key_at, key_for, result_of}
use Rattle.lattice.proofs.Histories.{legal}
use Rattle.lattice.proofs.Tables.{denoted, denotes_handle}
use Rattle.lattice.proofs.WordParts.{key_at-word, key_below, result_of-word}

module _ (c vars : ℕ) (ws : List ℕ) (place w : ℕ) (is : IsTrueWord c vars ws place w) where
  abbrev own : ℕ
  own = key_for is.op is.a is.b

  own_result : result_of w ≡ is.result
  own_result = ap result_of is.word ∙ result_of-word c own is.result is.result_fits

  -- What a look at a true cache word tells is its own key and result.
  kept_word : IsKeptWord c vars ws place w
  kept_word = record {
    is_true = is;
    key = (λ i. key_at c (sym is.there i) (is.word i))
        ∙ key_at-word c own is.result (key_below is.op is.a is.b is.a_fits is.b_fits) is.result_fits;
    result = own_result;
  }

  -- The result that a look at a true cache word tells is a handle of the table.
  pub result_handle : IsHandle ws (result_of w)
  result_handle = subst (IsHandle ws) (sym own_result) (denotes_handle vars ws is.denotes)

module _ (bits vars : ℕ) (ws : List ℕ) (can : IsCanonical bits vars ws) where
  has_family : (h : ℕ) → IsHandle ws h → HasFamily vars ws h
  has_family h is = let f = denoted bits vars ws can h is in record { is_handle = is; family = f.0; denotes = f.1 }

  -- A canonical table is sound with as many cache words as it has, each of them vacant or true.
  pub sound_table : (words : List ℕ) → length words ≡ 2 ^ cache_bits bits
      → ((place : ℕ) → IsVacantOrTrue (cache_bits bits) vars ws place (slice_index words place)) → IsSoundTable bits vars ws words
  sound_table words size each = record {
    canonical = can;
    slots = λ i is. has_family (suc (suc i)) is;
    size = size;
    cache = λ place. elim (each place) [
      | inl none ↦ inl none
      | inr is ↦ inr (kept_word (cache_bits bits) vars ws place (slice_index words place) is)
    ];
  }

  -- A history that fits a canonical table is sound on it, with handles of the table.
  pub sound_on : (met : List Entry) (handles : List ℕ) → FitsHistory (2 ^ bits) ws met → All (IsHandle ws) handles
      → IsSoundOn bits vars ws met handles
  sound_on met handles fits all = record {
    fits = fits;
    legal = legal bits vars ws can met fits;
    known = All-weaker (IsHandle ws) (HasFamily vars ws) has_family handles all;
  }

-- Each cache word of a sound table is vacant or true.
pub sound_word : (bits vars : ℕ) (ws words : List ℕ) → IsSoundTable bits vars ws words → (place : ℕ)
    → IsVacantOrTrue (cache_bits bits) vars ws place (slice_index words place)
sound_word bits vars ws words is place = elim (is.cache place) [ inl none ↦ inl none | inr kept ↦ inr kept.is_true ]
