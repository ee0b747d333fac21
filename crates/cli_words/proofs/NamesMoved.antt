-- What a parse makes of the words stays the same where the parsers of a command's arguments are
-- changed for others that take the same texts.
use Rattle.std.proofs.Common.{◌≡◌, ◌∙◌, ◌∷◌, ◌&&◌, not, ap, ap₂, ℕ, zero, suc, Bool, List, [], map, length, fold, Option, Some, None, arith}
use Rattle.std.proofs.Common.{option_map, refl, sym, ◌==◌, false, true, pos, negsuc, bytes_eq, chars, Bor}
use Rattle.std.specs.Prelude.{if◌then◌else◌, encode_utf8, drop, find, slice_get, is_some}
use Rattle.std.specs.List.{list_all, list_any}
use Rattle.std.specs.Option.{option_map_or}
use Rattle.std.proofs.lemmas.List.Folds.{fold_along}
use Rattle.clap.specs.Lexer.{long_of, short_of}
use Rattle.clap.specs.Facts.{explicit_source, parser_of_value, unwrap_or_range}
use Rattle.clap.specs.Values.{reading_of, refused_kind, same_text}
use Rattle.clap.specs.Walk.{Held, Names, Outcome, Row, Rule, Step, Text, Waiting, Walk, action_of, has_long, has_short, has_row, done}
use Rattle.clap.specs.Walk.{waits, plain, option, next, trailing, value, arg_by_id, attached_value, default_rows, pushed, is_pending}
use Rattle.clap.specs.Walk.{most_values, reacted, settled, settled_rows, takes_several, takes_values, used, used_as, used_by_id}
use Rattle.clap.specs.Walk.{values_or_missing, option_met, flag_met, long_met, short_met, bundle_step, bundle_met, option_word, plain_word}
use Rattle.clap.specs.Walk.{after_flag, short_or_plain, long_or_other, subcommand_met, subcommand_or_other, word_met, to_positional}
use Rattle.clap.specs.Walk.{after_step, walked, walked_from, walk, walk_from, with_default, finished, nothing_held, rows_after}
use Rattle.clap.specs.Simple.{App, Shape, argument_words, entered, is_ready, is_ready_leaf, names_of}
use Rattle.clap.specs.Takes.{is_given}
use Rattle.clap.specs.Kinds.{Kinds, check_kinds, or_else, range_kinds, value_kinds}
use Rattle.clap.specs.Faults.{use_fault, settle_fault, react_fault, option_fault, long_fault, short_fault, bundle_step_fault, flags_fault}
use Rattle.clap.specs.Faults.{bundle_fault, flag_word_fault, other_fault, positional_fault, step_fault, stray_fault, turn_fault, walk_fault}
use Rattle.clap.specs.Faults.{defaults_fault, check_fault, level_fault, entered_fault, built_fault, has_free_rules}
use Rattle.clap.specs.declared.builder.value_parser.ValueParser.{ValueParser}
use Rattle.clap.proofs.SimpleLemmas.{all_simple}
use Rattle.clap.proofs.WalkLemmas.{find-map, list_any-map}
use Rattle.clap.specs.Words.{built, fault_of, is_simple, is_simple_and_free, matches_of}
use Rattle.cli_words.specs.Arguments.{AreNames, NameList, at_zero, list_at_zero, mode_rule}
use Rattle.clap.specs.declared.error.kind.ErrorKind.TheVariants as kind
use Rattle.clap.specs.declared.builder.value_parser.ValueParser.TheVariants as vp

module _ (g : Option ValueParser → Option ValueParser)
    (reads : (p : Option ValueParser) → reading_of (parser_of_value (g p)) ≡ reading_of (parser_of_value p))
    (faults : (ic : Bool) (p : Option ValueParser) (t : Text)
    → value_kinds ic (parser_of_value (g p)) t ≡ value_kinds ic (parser_of_value p) t) where
  abbrev pub other : Rule → Rule
  other a = record a { parser = g a.parser }

  abbrev pub others : List Rule → List Rule
  others = map other

  -- what is made of the first rule that passes a test, where this is the same of each rule
  found_same : {X : Type 0} (p : Rule → Bool) (F G : Option Rule → X) → F None ≡ G None → ((a : Rule) → F (Some (other a)) ≡ G (Some a))
      → (c : List Rule) → F (find p (others c)) ≡ G (find (λ a. p (other a)) c)
  found_same p F G none some c = ap F (sym (find-map p other c)) ∙ go (find (λ a. p (other a)) c)
    where
      go : (o : Option Rule) → F (option_map other o) ≡ G o
      go None = none
      go (Some a) = some a

  missing_same : (a : Rule) (vs : List Text) → values_or_missing (other a) vs ≡ values_or_missing a vs
  missing_same a vs = grind arith

  used_same : (a : Rule) (vs : List Text) (rows : List Row) → used (other a) vs rows ≡ used a vs rows
  used_same a vs rows = ap₂ (λ how xs. used_as (action_of a) a.id how xs rows) (reads a.parser) (missing_same a vs)

  use_same : (again : Bool) (a : Rule) (vs : List Text) (rows : List Row) → use_fault again (other a) vs rows ≡ use_fault again a vs rows
  use_same again a vs rows = ap (or_else (range_kinds (unwrap_or_range a.range).start_inclusive (most_values a) (length vs))) (grind arith)

  settled_found : (c : List Rule) (p : Option (Text × List Text)) (rows : List Row) → settled_rows (others c) p rows ≡ settled_rows c p rows
  settled_found c None rows = refl
  settled_found c (Some p) rows = found_same (λ a. bytes_eq a.id p.0) (λ o. used_by_id o p.1 rows) (λ o. used_by_id o p.1 rows) refl
      (λ a. used_same a p.1 rows) c

  settled_same : (c : List Rule) (h : Held) → settled (others c) h ≡ settled c h
  settled_same c h = ap (λ rows. record h { rows = rows; pending = None }) (settled_found c h.pending h.rows)

  reacted_same : (c : List Rule) (a : Rule) (vs : List Text) (h : Held) → reacted (others c) (other a) vs h ≡ reacted c a vs h
  reacted_same c a vs h = ap (λ rows. record h { rows = rows; pending = None })
      (used_same a vs (settled (others c) h).rows ∙ ap (used a vs) (settled_found c h.pending h.rows))

  option_met_same : (c : List Rule) (a : Rule) (v : Option Text) (h : Held) → option_met (others c) (other a) v h ≡ option_met c a v h
  option_met_same c a (Some v) h = ap (λ (k : Held). (k, done)) (reacted_same c a (v ∷ []) h)
  option_met_same c a None h = ap (λ (k : Held). (record k { pending = Some (a.id, []) }, waits a.id)) (settled_same c h)

  flag_met_same : (c : List Rule) (a : Rule) (v : Option Text) (h : Held) → flag_met (others c) (other a) v h ≡ flag_met c a v h
  flag_met_same c a (Some v) h = refl
  flag_met_same c a None h = ap (λ (k : Held). (k, done)) (reacted_same c a [] h)

  bundle_step_same : (c : List Rule) (x : Option ℕ) (flags : Text) (skip : ℕ) (so_far : Outcome) (h : Held) (m n : Text → ℕ → Outcome
      → Held → Held × Outcome)
      → ((t : Text) (k : ℕ) (s : Outcome) (i : Held) → m t k s i ≡ n t k s i)
      → bundle_step (others c) x flags skip so_far h m ≡ bundle_step c x flags skip so_far h n
  bundle_step_same c None flags skip so_far h m n same = refl
  bundle_step_same c (Some x) flags zero so_far h m n same =
      let rest = drop (length (encode_utf8 x)) flags in
      found_same (λ a. not (is_some a.index) && has_short a x) (λ o. short_met (others c) o rest h (m rest 0 done))
      (λ o. short_met c o rest h (n rest 0 done)) refl (λ a. ap₂ (λ x y. if takes_values a then x else y)
      (option_met_same c a (attached_value rest) h)
      (same rest 0 done (reacted (others c) (other a) [] h) ∙ ap (n rest 0 done) (reacted_same c a [] h))) c
  bundle_step_same c (Some x) flags (suc skip) so_far h m n same = same (drop (length (encode_utf8 x)) flags) skip so_far h

  bundle_met_same : (c : List Rule) (k : ℕ) (flags : Text) (skip : ℕ) (so_far : Outcome) (h : Held)
      → bundle_met (others c) k flags skip so_far h ≡ bundle_met c k flags skip so_far h
  unfolding bundle_met
  bundle_met_same c zero flags skip so_far h = refl
  bundle_met_same c (suc k) flags skip so_far h =
      bundle_step_same c (slice_get (chars flags) 0) flags skip so_far h (bundle_met (others c) k) (bundle_met c k)
      (λ t j s i. bundle_met_same c k t j s i)

  plain_word_same : (c : List Rule) (w : Waiting) (word : Text) (h : Held) → plain_word (others c) w word h ≡ plain_word c w word h
  plain_word_same c (option id) word h =
      let after : Option Rule → Held × Step = λ o. ((option_word o id word h).0, next (option_word o id word h).1) in
      found_same (λ a. bytes_eq a.id id) after after refl (λ a. refl) c
  plain_word_same c w word h = refl

  after_flag_same : (c : List Rule) (w : Waiting) (word : Text) (h : Held) (o : Outcome)
      → after_flag (others c) w word h o ≡ after_flag c w word h o
  after_flag_same c w word h o = grind (arith, plain_word_same c w word h)

  met_same : (c : List Rule) (w : Waiting) (word : Text) (m n : Held × Outcome) → m ≡ n
      → after_flag (others c) w word m.0 m.1 ≡ after_flag c w word n.0 n.1
  met_same c w word m n same = after_flag_same c w word m.0 m.1 ∙ ap (λ (p : Held × Outcome). after_flag c w word p.0 p.1) same

  short_or_plain_same : (c : List Rule) (w : Waiting) (word : Text) (o : Option Text) (h : Held)
      → short_or_plain (others c) w word o h ≡ short_or_plain c w word o h
  short_or_plain_same c w word (Some flags) h = met_same c w word _ _
      (bundle_met_same c (length flags) flags h.skip plain (record h { skip = 0 }))
  short_or_plain_same c w word None h = plain_word_same c w word h

  long_or_other_same : (c : List Rule) (w : Waiting) (word : Text) (o : Option (Text × Option Text)) (h : Held)
      → long_or_other (others c) w word o h ≡ long_or_other c w word o h
  long_or_other_same c w word (Some p) h =
      met_same c w word _ _ (found_same (λ a. not (is_some a.index) && has_long a p.0) (λ o. long_met (others c) o p.1 h)
      (λ o. long_met c o p.1 h) refl
      (λ a. ap₂ (λ x y. if takes_values a then x else y) (option_met_same c a p.1 h) (flag_met_same c a p.1 h)) c)
  long_or_other_same c w word None h = short_or_plain_same c w word (short_of word) h

  sub_or_other_same : (c : List Rule) (s : Option Text) (w : Waiting) (position : ℕ) (word : Text) (h : Held)
      → subcommand_or_other (others c) s w position word h ≡ subcommand_or_other c s w position word h
  sub_or_other_same c (Some name) w position word h = refl
  sub_or_other_same c None w position word h =
      ap (λ x. if bytes_eq word (45 ∷ 45 ∷ []) then (h, trailing position) else x) (long_or_other_same c w word (long_of word) h)

  word_met_same : (c : List Rule) (names : Names) (t : Bool) (w : Waiting) (position : ℕ) (word : Text) (h : Held)
      → word_met (others c) names t w position word h ≡ word_met c names t w position word h
  word_met_same c names t w position word h =
      ap (λ x. if t then (h, value) else x) (sub_or_other_same c (subcommand_met names w word) w position word h)

  after_step_same : (c : List Rule) (word : Text) (w : Walk) (h : Held) (s : Step)
      → after_step (others c) word w h s ≡ after_step c word w h s
  after_step_same c word w h value =
      found_same (λ a. option_map_or (λ k. k == w.position) a.index false) (λ o. to_positional (others c) o word w h)
      (λ o. to_positional c o word w h) refl
      (λ a. ap (λ k. record (to_positional c (Some a) word w h) {
        held = pushed a.id word (if is_pending a h.pending && takes_several a then h else k);
      }) (settled_same c h)) c
  after_step_same c word w h s = refl

  walked_from_same : (c : List Rule) (names : Names) (s : Option (Text × List Text)) (w : Walk) (word : Text)
      → walked_from (others c) names s w word ≡ walked_from c names s w word
  walked_from_same c names (Some p) w word = refl
  walked_from_same c names None w word =
      let met : Held × Step = word_met c names w.is_trailing w.waiting w.position word w.held in
      ap (λ (p : Held × Step). after_step (others c) word w p.0 p.1) (word_met_same c names w.is_trailing w.waiting w.position word w.held)
      ∙ after_step_same c word w met.0 met.1

  walked_same : (c : List Rule) (names : Names) (w : Walk) (word : Text) → walked (others c) names w word ≡ walked c names w word
  unfolding walked
  walked_same c names w word = walked_from_same c names w.stopped w word

  walk_same : (c : List Rule) (names : Names) (h : Held) (words : List Text) → walk (others c) names h words ≡ walk c names h words
  walk_same c names h words = fold_along (walked (others c) names) (walked c names) (λ (v w : Walk). v ≡ w)
      (λ v w word e. walked_same c names v word ∙ ap (λ u. walked c names u word) e) (walk_from h) (walk_from h) words refl

  default_same : (rows : List Row) (a : Rule) → with_default rows (other a) ≡ with_default rows a
  default_same rows a = ap (λ how. if has_row a.id rows then rows else default_rows a.id how a.defaults rows) (reads a.parser)

  defaults_same : (c : List Rule) (rows : List Row) → fold with_default rows (others c) ≡ fold with_default rows c
  defaults_same [] rows = refl
  defaults_same (a ∷ c) rows = defaults_same c (with_default rows (other a)) ∙ ap (λ r. fold with_default r c) (default_same rows a)

  finished_same : (c : List Rule) (h : Held) → finished (others c) h ≡ finished c h
  finished_same c h = defaults_same c (settled (others c) h).rows ∙ ap (λ (k : Held). fold with_default k.rows c) (settled_same c h)

  pub rows_same : (c : List Rule) (names : Names) (h : Held) (words : List Text)
      → finished (others c) (walk (others c) names h words).held ≡ finished c (walk c names h words).held
  rows_same c names h words = finished_same c (walk (others c) names h words).held
      ∙ ap (λ (w : Walk). finished c w.held) (walk_same c names h words)

  -- ---- the same of the faults

  settle_pending : (c : List Rule) (again : Bool) (p : Option (Text × List Text)) (rows : List Row)
      → option_map_or (λ q. option_map_or (λ a. use_fault again a q.1 rows) (arg_by_id (others c) q.0) []) p []
      ≡ option_map_or (λ q. option_map_or (λ a. use_fault again a q.1 rows) (arg_by_id c q.0) []) p []
  settle_pending c again None rows = refl
  settle_pending c again (Some q) rows =
      let fault : Option Rule → Kinds = λ o. option_map_or (λ a. use_fault again a q.1 rows) o [] in
      found_same (λ a. bytes_eq a.id q.0) fault fault refl (λ a. use_same again a q.1 rows) c

  settle_same : (c : List Rule) (again : Bool) (h : Held) → settle_fault (others c) again h ≡ settle_fault c again h
  settle_same c again h = settle_pending c again h.pending h.rows

  react_same : (c : List Rule) (again : Bool) (a : Rule) (vs : List Text) (h : Held)
      → react_fault (others c) again (other a) vs h ≡ react_fault c again a vs h
  react_same c again a vs h = ap₂ or_else (settle_same c again h)
      (use_same again a vs (settled (others c) h).rows ∙ ap (λ (k : Held). use_fault again a vs k.rows) (settled_same c h))

  option_same : (c : List Rule) (again : Bool) (a : Rule) (v : Option Text) (h : Held)
      → option_fault (others c) again (other a) v h ≡ option_fault c again a v h
  option_same c again a (Some v) h = react_same c again a (v ∷ []) h
  option_same c again a None h = settle_same c again h

  bundle_step_fault_same : (c : List Rule) (again : Bool) (x : Option ℕ) (flags : Text) (skip : ℕ) (h : Held) (m n : Text → ℕ → Held
      → Kinds)
      → ((t : Text) (k : ℕ) (i : Held) → m t k i ≡ n t k i)
      → bundle_step_fault (others c) again x flags skip h m ≡ bundle_step_fault c again x flags skip h n
  bundle_step_fault_same c again None flags skip h m n same = refl
  bundle_step_fault_same c again (Some x) flags zero h m n same =
      let rest = drop (length (encode_utf8 x)) flags in
      found_same (λ a. not (is_some a.index) && has_short a x) (λ o. short_fault (others c) again o rest h (m rest 0))
      (λ o. short_fault c again o rest h (n rest 0)) refl (λ a. ap₂ (λ x y. if takes_values a then x else y)
      (option_same c again a (attached_value rest) h) (ap₂ or_else (react_same c again a [] h)
      (same rest 0 (reacted (others c) (other a) [] h) ∙ ap (n rest 0) (reacted_same c a [] h)))) c
  bundle_step_fault_same c again (Some x) flags (suc skip) h m n same = same (drop (length (encode_utf8 x)) flags) skip h

  flags_same : (c : List Rule) (again : Bool) (k : ℕ) (flags : Text) (skip : ℕ) (h : Held)
      → flags_fault (others c) again k flags skip h ≡ flags_fault c again k flags skip h
  unfolding flags_fault
  flags_same c again zero flags skip h = refl
  flags_same c again (suc k) flags skip h =
      bundle_step_fault_same c again (slice_get (chars flags) 0) flags skip h (flags_fault (others c) again k) (flags_fault c again k)
      (λ t j i. flags_same c again k t j i)

  bundles_same : (c : List Rule) (again : Bool) (o : Option Text) (h : Held)
      → option_map_or (λ flags. bundle_fault (others c) again flags h) o [] ≡ option_map_or (λ flags. bundle_fault c again flags h) o []
  bundles_same c again None h = refl
  bundles_same c again (Some flags) h = flags_same c again (length flags) flags h.skip (record h { skip = 0 })

  flag_word_same : (c : List Rule) (again : Bool) (o : Option (Text × Option Text)) (word : Text) (h : Held)
      → flag_word_fault (others c) again o word h ≡ flag_word_fault c again o word h
  flag_word_same c again (Some p) word h =
      found_same (λ a. not (is_some a.index) && has_long a p.0) (λ o. long_fault (others c) again o p.1 h)
      (λ o. long_fault c again o p.1 h) refl
      (λ a. ap₂ (λ x y. if takes_values a then x else (if is_some p.1 then kind.TooManyValues ∷ [] else y))
      (option_same c again a p.1 h) (react_same c again a [] h)) c
  flag_word_same c again None word h = bundles_same c again (short_of word) h

  abbrev pub with_others : Shape → Shape
  with_others s = record s { rules = others s.rules }

  other_fault_same : (s : Shape) (o : Option Text) (word : Text) (h : Held) → other_fault (with_others s) o word h ≡ other_fault s o word h
  other_fault_same s (Some name) word h = refl
  other_fault_same s None word h =
      ap (λ x. if bytes_eq word (45 ∷ 45 ∷ []) then [] else x) (flag_word_same s.rules s.args_override_self (long_of word) word h)

  step_same : (s : Shape) (position : ℕ) (h : Held) (x : Step) → step_fault (with_others s) position h x ≡ step_fault s position h x
  step_same s position h value =
      found_same (λ a. option_map_or (λ k. k == position) a.index false)
      (λ o. option_map_or (λ a. positional_fault (others s.rules) s.args_override_self a h) o (stray_fault s))
      (λ o. option_map_or (λ a. positional_fault s.rules s.args_override_self a h) o (stray_fault s)) refl
      (λ a. ap (λ x. if is_pending a h.pending && takes_several a then [] else x) (settle_same s.rules s.args_override_self h)) s.rules
  step_same s position h x = refl

  turn_same : (s : Shape) (names : Names) (w : Walk) (word : Text) → turn_fault (with_others s) names w word ≡ turn_fault s names w word
  turn_same s names w word =
      let met : Held × Step = word_met s.rules names w.is_trailing w.waiting w.position word w.held in
      ap₂ (λ x y. if is_some w.stopped then [] else or_else (if w.is_trailing then [] else x) y)
      (other_fault_same s (subcommand_met names w.waiting word) word w.held)
      (ap (λ (p : Held × Step). step_fault (with_others s) w.position p.0 p.1)
      (word_met_same s.rules names w.is_trailing w.waiting w.position word w.held)
      ∙ step_same s w.position met.0 met.1)

  walk_fault_same : (s : Shape) (names : Names) (w : Walk) (words : List Text)
      → walk_fault (with_others s) names w words ≡ walk_fault s names w words
  unfolding walk_fault
  walk_fault_same s names w [] = refl
  walk_fault_same s names w (word ∷ rest) = ap₂ or_else (turn_same s names w word)
      (walk_fault_same s names (walked (others s.rules) names w word) rest
      ∙ ap (λ x. walk_fault s names x rest) (walked_same s.rules names w word))

  defaults_fault_same : (c : List Rule) (rows : List Row) → defaults_fault rows (others c) ≡ defaults_fault rows c
  unfolding defaults_fault
  defaults_fault_same [] rows = refl
  defaults_fault_same (a ∷ c) rows = grind (arith, defaults_fault_same c (with_default rows (other a)))

  check_same : (s : Shape) (rows : List Row) (sub : Bool) → check_fault (with_others s) rows sub ≡ check_fault s rows sub
  check_same s rows sub = ap
      (λ x. check_kinds (not sub && (s.arg_required_else_help && not (list_any (λ r. explicit_source r.source) rows)))
      (not sub && s.subcommand_required) (not (s.subcommand_negates_reqs && sub) && x))
      (sym (list_any-map (λ (a : Rule). a.required && not (is_given a.id rows)) other s.rules))

  pub faults_same : (s : Shape) (names : Names) (h : Held) (words : List Text) (sub : Bool) (below : Kinds)
      → level_fault (with_others s) names h words sub below ≡ level_fault s names h words sub below
  faults_same s names h words sub below =
      let end : Held = (walk (others s.rules) names h words).held in
      let end_same : end ≡ (walk s.rules names h words).held = ap (λ (w : Walk). w.held) (walk_same s.rules names h words) in
      ap₂ or_else (walk_fault_same s names (walk_from h) words)
      (ap (or_else below) (ap₂ or_else
      (settle_same s.rules s.args_override_self end ∙ ap (settle_fault s.rules s.args_override_self) end_same)
      (ap₂ or_else
      (defaults_fault_same s.rules (settled (others s.rules) end).rows
      ∙ ap (λ (k : Held). defaults_fault k.rows s.rules) (settled_same s.rules end ∙ ap (settled s.rules) end_same))
      (check_same s (finished (others s.rules) end) sub ∙ ap (λ rows. check_fault s rows sub) (rows_same s.rules names h words)))))

  pub app_faults_same : (a : App) (h : Held) (words : List Text)
      → built_fault (record a { top = with_others a.top }) h words ≡ built_fault a h words
  app_faults_same a h words =
      let stop = (walk (others a.top.rules) (names_of a) h words).stopped in
      faults_same a.top (names_of a) h words (is_some (entered a stop)) (entered_fault a stop)
      ∙ ap (λ (s : Option (Text × List Text)). level_fault a.top (names_of a) h words (is_some (entered a s)) (entered_fault a s))
      (ap (λ (w : Walk). w.stopped) (walk_same a.top.rules (names_of a) h words))

-- ==== What a command makes of words does not depend on where its list of names lies

abbrev moved : NameList → NameList
moved list = list_at_zero (map (λ name. name.now) list.now)

abbrev erased : ValueParser → ValueParser
erased (vp.Names list) = vp.Names (moved list)
erased p = p

abbrev erase : Option ValueParser → Option ValueParser
erase None = None
erase (Some p) = Some (erased p)

reads : (p : Option ValueParser) → reading_of (parser_of_value (erase p)) ≡ reading_of (parser_of_value p)
reads (Some (vp.Signed (pos low) high)) = refl
reads (Some (vp.Signed (negsuc low) high)) = refl
reads p = refl

faults : (ic : Bool) (p : Option ValueParser) (t : Text)
    → value_kinds ic (parser_of_value (erase p)) t ≡ value_kinds ic (parser_of_value p) t
faults ic (Some (vp.Names list)) t =
    let texts = λ (name : Bor Text). name.now in
    ap (λ (b : Bool). if b then [] else refused_kind (vp.Names list) ∷ [])
    (sym (list_any-map (λ (name : Text). same_text ic name t) texts list.now
    ∙ list_any-map (λ (name : Bor Text). same_text ic name.now t) at_zero (map texts list.now)))
faults ic p t = refl

abbrev elsewhere : App → App
elsewhere a = record a { top = record a.top { rules = map (λ (r : Rule). record r { parser = erase r.parser }) a.top.rules } }

-- A command with MODE and these options is simple, and where its list of names lies elsewhere, the parsers alone change. At a command
-- that is written out each of these computes.
pub record IsDeclared (app_at : NameList → App) (options : List Rule) (list : NameList) : Type 0 where
  pub rules : (app_at list).top.rules ≡ mode_rule list ∷ options
  pub ready : is_ready (app_at list).top ≡ true
  pub leaves : list_all is_ready_leaf (app_at list).subs ≡ true
  pub rules_simple : all_simple (app_at list).top.rules ≡ true
  pub free : has_free_rules (app_at list).top ≡ true
  pub negates : (app_at list).top.subcommand_negates_reqs ≡ false
  pub drops_name : (app_at list).top.no_binary_name ≡ false
  pub simple : is_simple (app_at list) ≡ true
  pub simple_and_free : is_simple_and_free (app_at list) ≡ true
  pub moves : elsewhere (built (app_at list)) ≡ built (app_at (moved list))

-- built commands that are one another but for where their names lie
module _ (a b : App) (same : elsewhere a ≡ b) (words : List Text) where
  built_faults : built_fault a nothing_held words ≡ built_fault b nothing_held words
  built_faults = sym (app_faults_same erase reads faults a nothing_held words) ∙ ap (λ (x : App). built_fault x nothing_held words) same

  built_rows : rows_after a.top.rules (names_of a) words ≡ rows_after b.top.rules (names_of b) words
  built_rows = sym (rows_same erase reads faults a.top.rules (names_of a) nothing_held words)
      ∙ ap (λ (x : App). rows_after x.top.rules (names_of x) words) same

module _ (app_at : NameList → App) (options : List Rule) (is : (list : NameList) → IsDeclared app_at options list) (names : List Text)
    (list : NameList) (words : List Text) (texts : AreNames names list) where
  same_words : argument_words (app_at list) words ≡ argument_words (app_at (moved list)) words
  same_words = ap (λ (none : Bool). if none then words else drop 1 words) ((is list).drops_name ∙ sym (is (moved list)).drops_name)

  pub fault_is : fault_of (app_at list) words ≡ fault_of (app_at (list_at_zero names)) words
  fault_is = built_faults (built (app_at list)) (built (app_at (moved list))) (is list).moves (argument_words (app_at list) words)
      ∙ (ap (λ (ws : List Text). built_fault (built (app_at (moved list))) nothing_held ws) same_words
      ∙ ap (λ (ns : List Text). fault_of (app_at (list_at_zero ns)) words) texts)

  pub matches_is : matches_of (app_at list) words ≡ matches_of (app_at (list_at_zero names)) words
  matches_is = built_rows (built (app_at list)) (built (app_at (moved list))) (is list).moves (argument_words (app_at list) words)
      ∙ (ap (λ (ws : List Text). rows_after (built (app_at (moved list))).top.rules (names_of (built (app_at (moved list)))) ws) same_words
      ∙ ap (λ (ns : List Text). matches_of (app_at (list_at_zero ns)) words) texts)
