-- Each event leaves a sound machine, over every list of events.
use Rattle.std.proofs.Common.{◌≡◌, ◌≢◌, ℕ, zero, suc, ◌+◌, ◌^◌, ◌<◌, ◌≤◌, true, ◌&&◌, ◌==◌, if◌then◌else◌, List, [], ◌∷◌, ◌++◌, length}
use Rattle.std.proofs.Common.{replicate, take, slice_index, set, sym, refl, ◌∙◌, subst, arith, inl, inr, eq-eqb, ne_eqb, eqb}
use Rattle.std.proofs.Common.{Result, Ok, Err, OnOk, OnErr, get_or-set_same, get_or-set_other, length-set}
use Rattle.std.specs.List.{All}
use Rattle.std.proofs.lemmas.Bool.{or_cases, eqb-true, cases_Bool}
use Rattle.std.proofs.lemmas.List.{length-replicate}
use Rattle.std.proofs.lemmas.List.Elements.{All-nil, All-cons, All-head, All-map, All-tail, All-push, All-set, All-weaker}
use mathlib.Core.Logic.{dite}
use native.Mathlib.Decide.{ℕ_discrete}
use Rattle.lattice.specs.declared.entry.Entry.TheVariants.{Met}
use Rattle.lattice.specs.Words.{lo_of, hi_of, place, cache_bits, key_at, result_of, IsTrueWord, IsFilled, IsHandle, IsNodeWord, IsCanonical}
use Rattle.lattice.specs.Words.{MayFill, KeepsWords, FitsHistory, HasFamily, IsVacantOrTrue}
use Rattle.lattice.proofs.Diagrams.{grows_handle, fits_append, fits_grows, slot_holds, fills, filling_grows, node_some, no_word}
use Rattle.lattice.proofs.Diagrams.{none_filled, met_slot, place_below, result_handle, sound_on, sound_table, sound_word, true_word_stays}
use Rattle.lattice.proofs.Polynomials.{All-from_map, at_or}
use Rattle.node_store.specs.declared.store.Handle.{Handle}
use Rattle.lattice.specs.declared.limits.TheConstants.{MIN_BITS}
use Rattle.lattice.specs.declared.memory.Memory.{Memory}
use Rattle.probe_core.specs.declared.event.Event.{Event}
use Rattle.probe_core.specs.declared.event.Seen.{Seen}
use Rattle.probe_core.specs.declared.event.Event.TheVariants.{Load, Exchange, CacheLoad, CacheStore, Split, Join}
use Rattle.probe_core.specs.Machines.{SeatState, Machine}
use Rattle.probe_core.specs.Seats.{handle, knows, knows_key, learned, numbers, united, met_more, told_more, first_seat, twin, joined, ended}
use Rattle.probe_core.specs.Events.{start, no_seat, seat_at, MayExchange, MayTake, meets, takes, looks, after, after_all, MayTakeAll}
use Rattle.probe_core.specs.Soundness.{IsSoundSeat, IsSoundMachine, IsLawful}

-- ---- what a seat has fits the table

-- the handle is a constant or that of a filled slot
abbrev IsHandleOf : List ℕ → Handle → Type 0
IsHandleOf ws h = IsHandle ws h.0

record SeatFits (size : ℕ) (ws : List ℕ) (seat : SeatState) : Type 0 where
  pub met : FitsHistory size ws seat.met
  pub known : All (IsHandleOf ws) seat.known

-- what is true of all known handles is true of each one
knows-all : (P : ℕ → Type 0) (known : List Handle) (h : ℕ) → knows known h ≡ true → All (λ (k : Handle). P k.0) known → P h
knows-all P [] h is all = cc
knows-all P (k ∷ ks) h is all = let Q = λ (l : Handle). P l.0 in
    grind (arith, or_cases (eqb k.0 h) (knows ks h) is, eqb-true k.0 h, All-head Q k ks all, knows-all P ks h, All-tail Q k ks all)

module _ (ws : List ℕ) where
  learned_fits : (known : List Handle) (h : ℕ) → All (IsHandleOf ws) known → IsHandle ws h → All (IsHandleOf ws) (learned known h)
  learned_fits known h all is = grind (arith, cases_Bool (knows known h), All-push (IsHandleOf ws) known (handle h) all is)

  united_fits : (known others : List Handle) → All (IsHandleOf ws) known → All (IsHandleOf ws) others
      → All (IsHandleOf ws) (united known others)
  united_fits known [] all all' = all
  united_fits known (h ∷ hs) all all' =
      let one = learned_fits known h.0 all (All-head (IsHandleOf ws) h hs all') in
      united_fits (learned known h.0) hs one (All-tail (IsHandleOf ws) h hs all')

  -- a seat that meets a filled slot
  meeting_fits : (bits vars : ℕ) (at w size : ℕ) (seat : SeatState) → IsCanonical bits vars ws → slice_index ws at ≡ w → w ≢ 0
      → SeatFits size ws seat → SeatFits size ws (met_more seat at w)
  meeting_fits bits vars at w size seat can found some fits =
      let filled : IsFilled ws at = λ none. some (sym found ∙ none) in
      let own : IsHandle ws (at + 2) = let two : suc (suc at) ≡ at + 2 = omega arith in subst (IsHandle ws) two filled in
      let node : IsNodeWord vars ws w = subst (IsNodeWord vars ws) found (can.nodes at filled) in
      let low = learned_fits seat.known (lo_of w) fits.known node.low in
      let both = learned_fits (learned seat.known (lo_of w)) (hi_of w) low node.high in
      let mine = learned_fits seat.known (at + 2) fits.known own in record {
        met = fits_append size ws seat.met (Met (at + 2) w ∷ []) fits.met (slot_holds ws at w found some, tt);
        known =
            grind (arith, cases_Bool (knows seat.known (at + 2)), cases_Bool (knows seat.known (lo_of w) && knows seat.known (hi_of w)));
      }

-- ---- sound machines are those that fit

-- the seat fits the table
abbrev IsSeated : Machine → SeatState → Type 0
IsSeated s = SeatFits (2 ^ s.bits) s.words

-- what each event keeps, and all else follows from: the table is canonical, each cache word is vacant or true, and each seat fits
record Fits (s : Machine) : Type 0 where
  pub canonical : IsCanonical s.bits s.vars s.words
  pub size : length s.cache ≡ 2 ^ cache_bits s.bits
  pub cache : (place : ℕ) → IsVacantOrTrue (cache_bits s.bits) s.vars s.words place (slice_index s.cache place)
  pub seats : All (IsSeated s) s.seats

sound : (s : Machine) → Fits s → IsSoundMachine s
sound s fits = record {
  table = sound_table s.bits s.vars s.words fits.canonical s.cache fits.size fits.cache;
  seats = All-weaker (IsSeated s) (IsSoundSeat s) (λ seat f. sound_on s.bits s.vars s.words fits.canonical seat.met (numbers seat.known)
      f.met (All-map (IsHandle s.words) (λ (h : Handle). h.0) seat.known f.known)) s.seats fits.seats;
}

fitting : (s : Machine) → IsSoundMachine s → Fits s
fitting s is = let table = is.table in record {
  canonical = table.canonical;
  size = table.size;
  cache = sound_word s.bits s.vars s.words s.cache table;
  seats = All-weaker (IsSoundSeat s) (IsSeated s) (λ seat f. record {
    met = f.fits;
    known = All-weaker (λ (h : Handle). HasFamily s.vars s.words h.0) (IsHandleOf s.words) (λ h has. has.is_handle) seat.known
        (All-from_map (HasFamily s.vars s.words) (λ (h : Handle). h.0) seat.known f.known);
  }) s.seats is.seats;
}

-- ---- the first state

start_fits : (bits vars : ℕ) → Fits (start bits vars)
start_fits bits vars =
    let Is = IsHandleOf (replicate (2 ^ bits) 0) in let Fit = IsSeated (start bits vars) in
    let known : All Is (handle 0 ∷ handle 1 ∷ []) = All-cons Is (handle 0) (handle 1 ∷ []) tt (All-cons Is (handle 1) [] tt (All-nil Is)) in
    record {
      canonical = grind (arith, length-replicate, none_filled);
      size = length-replicate (2 ^ cache_bits bits) 0;
      cache = λ place. inl (no_word (2 ^ cache_bits bits) place);
      seats = All-cons Fit first_seat [] (record { met = tt; known = known }) (All-nil Fit);
    }

-- ---- one event

-- an exchange is made at a place of the table
pub within : (s : Machine) (seat : SeatState) (at w : ℕ) → MayExchange s seat at w → MIN_BITS ≤ s.bits → at < 2 ^ s.bits
within s seat at w may least =
    let p = may.probed in subst (λ (k : ℕ). k < 2 ^ s.bits) p.there (place_below s.bits w p.steps least)

-- by whether a word is vacant
by_word : (P : Machine → Type 0) (t u : Machine) (found : ℕ) → (found ≡ 0 → P t) → (found ≢ 0 → P u) → P (if found == 0 then t else u)
by_word P t u found vacant filled = grind (arith, eq-eqb found 0, ne_eqb found 0, cases_Bool (found == 0))

module _ (s : Machine) (fits : Fits s) where
  seat_fits : (id : ℕ) → IsSeated s (seat_at s id)
  seat_fits id = at_or (IsSeated s) s.seats id no_seat (record { met = tt; known = All-nil (IsHandleOf s.words) }) fits.seats

  -- other seats that fit the same words
  with_seats : (seats : List SeatState) → All (IsSeated s) seats → Fits (record s { seats = seats })
  with_seats seats all = record { canonical = fits.canonical; size = fits.size; cache = fits.cache; seats = all }

  -- one seat is another one, which fits
  with_seat : (id : ℕ) (seat : SeatState) → IsSeated s seat → Fits (record s { seats = set s.seats id seat })
  with_seat id seat is = with_seats (set s.seats id seat) (All-set (IsSeated s) s.seats id seat is fits.seats)

  -- a seat meets a filled slot
  meets_fit : (id at w : ℕ) → slice_index s.words at ≡ w → w ≢ 0 → Fits (meets s id at w)
  meets_fit id at w found some = with_seat id (met_more (seat_at s id) at w)
      (meeting_fits s.words s.bits s.vars at w (2 ^ s.bits) (seat_at s id) fits.canonical found some (seat_fits id))

  -- a seat sees a cache word, which is true where it is not vacant
  looks_fit : (id at : ℕ) → slice_index s.cache at ≢ 0 → Fits (looks s id at (slice_index s.cache at))
  looks_fit id at some =
      let w : ℕ = slice_index s.cache at in let key : ℕ = key_at (cache_bits s.bits) at w in
      let seat = seat_at s id in let f = seat_fits id in
      let more : All (IsHandleOf s.words) (learned seat.known (result_of w)) =
      learned_fits s.words seat.known (result_of w) f.known (elim (fits.cache at) [
        | inl none ↦ absurd (some none)
        | inr is ↦ result_handle (cache_bits s.bits) s.vars s.words at w is
      ]) in
      with_seat id (told_more seat key (result_of w))
      (record { met = f.met; known = grind (arith, more, f.known, cases_Bool (knows_key seat.known key)) })

  -- a cache word is stored that is true at its place
  stores_fit : (at w : ℕ) → at < 2 ^ cache_bits s.bits → IsTrueWord (cache_bits s.bits) s.vars s.words at w
      → Fits (record s { cache = set s.cache at w })
  stores_fit at w less is = record {
    canonical = fits.canonical;
    size = length-set s.cache at w ∙ fits.size;
    cache = λ p. dite (ℕ_discrete p at) (λ same. rw (same, get_or-set_same s.cache at w 0 (grind (arith, fits.size))) (inr is))
        (λ other. rw (get_or-set_other s.cache at p w 0 other) (fits.cache p));
    seats = fits.seats;
  }

  -- a word that a seat may exchange is a node's, and may fill the place
  may_fill : (id at w : ℕ) → MayExchange s (seat_at s id) at w → MayFill s.bits s.vars s.words at w
  may_fill id at w may = let f = seat_fits id in let node = may.node in let known = (seat_at s id).known in record {
    node = grind (arith, knows-all (IsHandle s.words) known (lo_of w) node.low, knows-all (IsHandle s.words) known (hi_of w) node.high);
    steps = (may.probed).steps;
    within = (may.probed).within;
    there = (may.probed).there;
    others = λ e less. let p = (may.probed).passed e less in
        grind (arith, met_slot (2 ^ s.bits) s.words (seat_at s id).met (place s.bits w e) p.0 f.met p.1, p.2);
  }

  -- a vacant place takes it
  takes_fit : (id at w : ℕ) → slice_index s.words at ≡ 0 → MayExchange s (seat_at s id) at w → at < 2 ^ s.bits → Fits (takes s at w)
  takes_fit id at w vacant may inside =
      let keeps = filling_grows s.words at w vacant in record {
        canonical = fills s.bits s.vars s.words at w fits.canonical vacant inside (may_fill id at w may);
        size = fits.size;
        cache = λ p. elim (fits.cache p) [
          | inl none ↦ inl none
          | inr is ↦ inr (true_word_stays (cache_bits s.bits) s.vars p (slice_index s.cache p) s.words (set s.words at w) keeps is)
        ];
        seats = All-weaker (IsSeated s) (IsSeated (takes s at w)) (λ seat g. record {
          met = fits_grows (2 ^ s.bits) s.words (set s.words at w) keeps [] seat.met g.met;
          known = All-weaker (IsHandleOf s.words) (IsHandleOf (set s.words at w))
              (λ h. grows_handle s.words (set s.words at w) keeps h.0) seat.known g.known;
        }) s.seats fits.seats;
      }

-- the same where the seat that exchanged the word meets its slot
won_fits : (s : Machine) → Fits s → (id at w : ℕ) → slice_index s.words at ≡ 0 → MayExchange s (seat_at s id) at w
    → at < 2 ^ s.bits → Fits (takes (meets s id at w) at w)
won_fits s fits id at w vacant may inside =
    let here : slice_index (set s.words at w) at ≡ w =
    get_or-set_same s.words at w 0 (grind (arith, (fits.canonical).size, inside)) in
    meets_fit (takes s at w) (takes_fit s fits id at w vacant may inside) id at w here
    (node_some s.vars s.words w (may_fill s fits id at w may).node)

-- an event that exchanges a word does so at a place of the table
abbrev IsInside : Machine → Event → Type 0
IsInside s (Exchange id at w) = at < 2 ^ s.bits
IsInside s _ = Unit {0}

may_inside : (s : Machine) (e : Event) → MIN_BITS ≤ s.bits → MayTake s e → IsInside s e
may_inside s (Load id at) least may = tt
may_inside s (Exchange id at w) least may = within s (seat_at s id) at w may.1 least
may_inside s (CacheLoad id at) least may = tt
may_inside s (CacheStore id at w) least may = tt
may_inside s (Split id) least may = tt
may_inside s (Join id other) least may = tt

after_fits : (s : Machine) (e : Event) → IsInside s e → Fits s → MayTake s e → Fits (after s e)
after_fits s (Load id at) inside fits may =
    let w : ℕ = slice_index s.words at in by_word Fits s (meets s id at w) w (λ none. fits) (meets_fit s fits id at w refl)
after_fits s (Exchange id at w) inside fits may = let found : ℕ = slice_index s.words at in
    by_word Fits (takes (meets s id at w) at w) (meets s id at found) found (λ none. won_fits s fits id at w none may.1 inside)
    (meets_fit s fits id at found refl)
after_fits s (CacheLoad id at) inside fits may =
    let w : ℕ = slice_index s.cache at in by_word Fits s (looks s id at w) w (λ none. fits) (looks_fit s fits id at)
after_fits s (CacheStore id at w) inside fits may = let store = may.1 in stores_fit s fits at w store.within store.is_true
after_fits s (Split id) inside fits may =
    let new : IsSeated s (twin (seat_at s id)) = record { met = tt; known = (seat_fits s fits id).known } in
    with_seats s fits (s.seats ++ twin (seat_at s id) ∷ []) (All-push (IsSeated s) s.seats (twin (seat_at s id)) fits.seats new)
after_fits s (Join id other) inside fits may =
    let a = seat_at s id in let b = seat_at s other in let f = seat_fits s fits id in let g = seat_fits s fits other in
    let both : IsSeated s (joined a b) = record {
      met = fits_append (2 ^ s.bits) s.words a.met b.met f.met g.met;
      known = united_fits s.words a.known b.known f.known g.known;
    } in
    with_seat (record s { seats = set s.seats id (joined a b) }) (with_seat s fits id (joined a b) both) other (ended b)
    (record { met = g.met; known = g.known })

-- a sound machine stays sound
after_sound : (s : Machine) (e : Event) → IsInside s e → MayTake s e → IsSoundMachine s → IsSoundMachine (after s e)
after_sound s e inside may is = sound (after s e) (after_fits s e inside (fitting s is) may)

-- it has the same places
after_bits : (s : Machine) (e : Event) → (after s e).bits ≡ s.bits
after_bits s (Load id at) = grind arith
after_bits s (Exchange id at w) = grind arith
after_bits s (CacheLoad id at) = grind arith
after_bits s (CacheStore id at w) = refl
after_bits s (Split id) = refl
after_bits s (Join id other) = refl

-- a state stays sound, by the clauses of a call that takes the event
pub stays_sound : (s t : Machine) (e e' : Event) (r : Result Seen Memory) → e ≡ e' → IsInside s e' → MayTake s e
    → OnOk r (t ≡ after s e') → OnErr r (t ≡ s) → IsSoundMachine s → IsSoundMachine t
stays_sound s t e e' (Ok seen) same inside may ok err is = rw ok (after_sound s e' inside (rw same at may) is)
stays_sound s t e e' (Err none) same inside may ok err is = rw err is

pub start_sound : (bits vars : ℕ) → IsSoundMachine (start bits vars)
start_sound bits vars = sound (start bits vars) (start_fits bits vars)

-- no event changes the word of a filled slot
abbrev IsKept : Machine → Machine → Type 0
IsKept s t = KeepsWords s.words t.words

pub after_keeps : (s : Machine) (e : Event) → IsKept s (after s e)
after_keeps s (Load id at) j is = grind arith
after_keeps s (Exchange id at w) j is = grind (arith, filling_grows s.words at w)
after_keeps s (CacheLoad id at) j is = grind arith
after_keeps s (CacheStore id at w) j is = refl
after_keeps s (Split id) j is = refl
after_keeps s (Join id other) j is = refl

-- ---- lists of events

run_sound : (s : Machine) (es : List Event) → MIN_BITS ≤ s.bits → IsSoundMachine s → MayTakeAll s es → (n : ℕ)
    → IsSoundMachine (after_all s (take n es))
run_sound s es least is may zero = is
run_sound s [] least is may (suc n) = is
run_sound s (e ∷ es) least is may (suc n) =
    run_sound (after s e) es (rw (after_bits s e) least) (after_sound s e (may_inside s e least may.0) may.0 is) may.1 n

kept_from : (s : Machine) (es : List Event) → IsKept s (after_all s es)
kept_from s [] j is = refl
kept_from s (e ∷ es) j is = let one = after_keeps s e j is in kept_from (after s e) es j (λ none. is (sym one ∙ none)) ∙ one

run_keeps : (s : Machine) (es : List Event) (n m : ℕ) → n ≤ m → IsKept (after_all s (take n es)) (after_all s (take m es))
run_keeps s es zero m less j is = kept_from s (take m es) j is
run_keeps s [] (suc n) zero less j is = refl
run_keeps s [] (suc n) (suc m) less j is = refl
run_keeps s (e ∷ es) (suc n) zero less j is = absurd (omega arith)
run_keeps s (e ∷ es) (suc n) (suc m) less j is = run_keeps (after s e) es n m (omega arith) j is

pub run_lawful : (bits vars : ℕ) (es : List Event) → MIN_BITS ≤ bits → MayTakeAll (start bits vars) es → IsLawful (start bits vars) es
run_lawful bits vars es least may =
    record { sound = run_sound (start bits vars) es least (start_sound bits vars) may; keeps = run_keeps (start bits vars) es }
