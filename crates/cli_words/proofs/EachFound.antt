-- What a parse that succeeds has of an argument that takes one value.
use Rattle.std.proofs.Common.{◌≡◌, ◌⊎◌, ◌∙◌, ◌<◌, ◌≤◌, ap, ap₂, arith, Bool, List, ℕ, [], ◌∷◌, length, Option, Some, None, is_some}
use Rattle.std.proofs.Common.{refl, subst, sym, unwrap_or, true, true≢false, inl, inr, zero, suc, codes, map, false, bytes_eq, Bor}
use Rattle.std.specs.List.{All, slice_index_or, Any, list_all, list_any}
use Rattle.std.specs.Prelude.{find, option_map}
use Rattle.std.proofs.lemmas.Slice.Eq.{bytes_eq-Decides}
use Rattle.std.proofs.lemmas.List.{get_or-map, length-map}
use Rattle.std.proofs.lemmas.Bool.{or_cases}
use Rattle.clap.specs.Built.{SameRules, IsAuto, IsParsedFrom, IsPlain}
use Rattle.clap.specs.Facts.{AllowsNone, Entry, EntryPasses, HasReading, IsCountArg, IsGroupEntry, IsKnownGroup, PassesArg, ValuesPass}
use Rattle.clap.specs.Facts.{args_of, groups_of, least_values, IsParsed}
use Rattle.clap.specs.Matches.{first_value, matched_of, one_text, found_of, has_subcommand}
use Rattle.clap.specs.Values.{Accepts, read_as, reading_of}
use Rattle.clap.specs.declared.builder.action.ArgAction.TheVariants.{Set}
use Rattle.clap.specs.declared.builder.arg.Arg.{Arg}
use Rattle.clap.specs.declared.builder.command.Command.{Command}
use Rattle.clap.specs.declared.builder.value_parser.ValueParser.{ValueParser}
use Rattle.clap.specs.declared.parser.matches.Found.{Found}
use Rattle.clap.specs.declared.parser.matches.MatchedArg.{MatchedArg}
use Rattle.clap.proofs.CallerLemmas.{entry_by_id, default_present, present_has_entry, required_present, same_rules_by_id}
use Rattle.clap.specs.Faults.{has_free_rules}
use Rattle.clap.specs.Simple.{App, IsSimple, IsSimpleArg, Shape, app_of, is_ready, is_ready_leaf, shape_of}
use Rattle.clap.specs.Texts.{items_of}
use Rattle.clap.specs.Walk.{Rule, Text, rule_of}
use Rattle.clap.specs.declared.parser.matches.ArgMatches.{ArgMatches}
use Rattle.clap.proofs.FaultLemmas.{free_args}
use Rattle.clap.proofs.SimpleLemmas.{all_simple, ready_simple, simple_groups}
use Rattle.clap.proofs.WalkLemmas.{list_any-map}
use Rattle.cli_words.specs.Arguments.{AreNames, HasModeOf, HasNumber, NameList, mode_rule}
use Rattle.cli_words.proofs.NamesMoved.{IsDeclared}
use Rattle.clap.specs.declared.builder.value_parser.ValueParser.TheVariants as parser

-- the getters give a text of this id, which passed the parser
pub record HasValue (f : Found) (id : List ℕ) (ignore_case : Bool) (parser : ValueParser) : Type 0 where
  pub text : List ℕ
  pub first : first_value f id ≡ Some text
  pub one : one_text f id ≡ Some (read_as (reading_of parser) text)
  pub accepted : Accepts ignore_case parser text

-- each argument of the command with the id of `a` has the rules of `a`
abbrev pub IsOnly : Command → Arg → Type 0
IsOnly c a = (j : ℕ) (x : Arg) → j < length (args_of c) → slice_index_or (args_of c) j x ≡ x
    → bytes_eq x.id.now a.id.now ≡ true → SameRules a x

-- an argument that takes one value
pub record TakesOne (a : Arg) (parser : ValueParser) : Type 0 where
  pub set : a.action ≡ Some Set
  pub whole : a.val_delim ≡ None
  pub least : 1 ≤ least_values a
  pub parser_is : a.value_parser ≡ Some parser
  pub named : a.id.now ≡ [] → ⊥

from_entry : (c : Command) (f : Found) (a : Arg) (q : ValueParser) (x : MatchedArg) → IsOnly c a → TakesOne a q
    → matched_of f a.id.now ≡ Some x
    → 0 < length x.vals.items → All (λ v. PassesArg c a.id.now v.now) x.vals.items → HasReading c a.id.now x.reading
    → HasValue f a.id.now a.ignore_case q
from_entry c f a q x only takes is some pass has = go x.vals.items refl some pass
  where
    go : (vs : List (Bor (List ℕ))) → x.vals.items ≡ vs → 0 < length vs → All (λ v. PassesArg c a.id.now v.now) vs
        → HasValue f a.id.now a.ignore_case q
    go [] vals some pass = absurd (omega arith)
    go (v ∷ vs) vals some pass = grind (arith, pass 0 v (omega arith))

is_no_group : (c : Command) (e : Entry) → groups_of c ≡ [] → (e.0.now ≡ [] → ⊥) → IsGroupEntry c e → e.1.is_group ≡ true → ⊥
is_no_group c e no_groups named known group = grind arith

abbrev FilledAs : Command → MatchedArg → List ℕ → Type 0
FilledAs c x id = ((x.is_group ≡ true) × IsKnownGroup c id)
    ⊎ ((0 < length x.vals.items) ⊎ (((is_some x.count ≡ true) × IsCountArg c id) ⊎ AllowsNone c id))

has_values : (c : Command) (a : Arg) (q : ValueParser) (x : MatchedArg) → IsOnly c a → TakesOne a q → (x.is_group ≡ true → ⊥)
    → FilledAs c x a.id.now → 0 < length x.vals.items
has_values c a q x only takes no_group filled = grind (arith, unwrap_or, true≢false, is_some)

no_other : {P Q : Type 0} → P ⊎ Q → (P → ⊥) → Q
no_other (inl p) not = absurd (not p)
no_other (inr q) not = q

entry_has : (c : Command) (f : Found) (a : Arg) (q : ValueParser) (e : Entry) → IsOnly c a → TakesOne a q → groups_of c ≡ []
    → matched_of f a.id.now ≡ Some e.1 → e.0.now ≡ a.id.now → EntryPasses c e → HasValue f a.id.now a.ignore_case q
entry_has c f a q e only takes no_groups is key pass =
    let no_group = is_no_group c e no_groups (λ empty. takes.named (sym key ∙ empty)) pass.3 in
    let passes = rw key at pass in
    from_entry c f a q e.1 only takes is (has_values c a q e.1 only takes no_group passes.1) (no_other passes.0 no_group)
    (no_other passes.4 no_group)

-- an argument that takes one value and has an entry has a value
pub value_found : (c : Command) (f : Found) (a : Arg) (q : ValueParser) → IsOnly c a → TakesOne a q → groups_of c ≡ [] → ValuesPass c f
    → is_some (matched_of f a.id.now) ≡ true → HasValue f a.id.now a.ignore_case q
value_found c f a q only takes no_groups passes has = go (matched_of f a.id.now) refl has
  where
    go : (o : Option MatchedArg) → matched_of f a.id.now ≡ o → is_some o ≡ true → HasValue f a.id.now a.ignore_case q
    go None is has = cc
    go (Some x) is has =
        let got = entry_by_id (EntryPasses c) f.entries.items a.id.now x passes is in
        entry_has c f a q got.0 only takes no_groups (is ∙ ap Some (sym got.1)) ((bytes_eq-Decides got.0.0.now a.id.now).0 got.2) got.3

-- ==== A parse of a declared command that succeeds has a value of MODE, and of each option with a default

-- ---- entries and texts

some_entry : (xs : List Entry) (id : Text) (i : ℕ) → i < length xs → ((d : Entry) → bytes_eq (slice_index_or xs i d).0.now id ≡ true)
    → is_some (option_map (λ (e : Entry). e.1) (find (λ (e : Entry). bytes_eq e.0.now id) xs)) ≡ true
some_entry [] id i lt same = absurd (omega arith)
some_entry (x ∷ xs) id zero lt same = rw (same x) refl
some_entry (x ∷ xs) id (suc i) lt same = grind (arith, some_entry xs id i)

differs : (s t : Text) → bytes_eq s t ≡ false → s ≡ t → ⊥
differs s t other same = true≢false (sym ((bytes_eq-Decides s t).1 same) ∙ other)

-- a text that is one of the names is the name of some mode
mode_among : {M : Type 0} (name_of : M → Text) (P : Text → Type 0) (text : Text) (ms : List M) → P text
    → list_any (λ (name : Text). bytes_eq name text) (map name_of ms) ≡ true → Any (λ mode. P (name_of mode)) ms
mode_among name_of P text [] holds among = absurd cc
mode_among name_of P text (x ∷ xs) holds among =
    elim (or_cases (bytes_eq (name_of x) text) (list_any (λ (name : Text). bytes_eq name text) (map name_of xs)) among) [
      | inl is ↦ (0, x, omega arith, refl, subst P (sym ((bytes_eq-Decides (name_of x) text).0 is)) holds)
      | inr later ↦
          let any = mode_among name_of P text xs holds later in let lt = any.2 in (suc any.0, any.1, omega arith, any.3, any.4)
    ]

first_of_some : (xs : List Arg) → 0 < length xs → Arg
first_of_some [] some = absurd (omega arith)
first_of_some (x ∷ xs) some = x

-- ---- the arguments

-- an argument, told by its rule
module _ (a : Arg) (r : Rule) (is : rule_of a ≡ r) (simple : IsSimpleArg a) (q : ValueParser) where
  takes_one : r.action ≡ Some Set → r.range ≡ None → r.parser ≡ Some q → bytes_eq r.id [] ≡ false → TakesOne a q
  takes_one set one parser named = grind (arith, differs)

  by_rule : (f : Found) → r.ignore_case ≡ false → HasValue f a.id.now a.ignore_case q → HasValue f r.id false q
  by_rule f case has = grind arith

abbrev pub ids_of : List Rule → List Text
ids_of rules = map (λ (r : Rule). r.id) rules

-- What the k-th rule of a command says of an argument that takes one value by this parser, and that no other rule has its id. At rules
-- that are written out each of these computes.
pub record IsRuleOfOne (rules : List Rule) (k : ℕ) (r : Rule) (q : ValueParser) : Type 0 where
  pub low : k < length rules
  pub place : slice_index_or rules k r ≡ r
  pub set : r.action ≡ Some Set
  pub one : r.range ≡ None
  pub parser_is : r.parser ≡ Some q
  pub case : r.ignore_case ≡ false
  pub named : bytes_eq r.id [] ≡ false
  pub no_help : bytes_eq r.id (codes "help") ≡ false
  pub no_version : bytes_eq r.id (codes "version") ≡ false
  pub only : (j : ℕ) → j < length rules → bytes_eq (slice_index_or (ids_of rules) j []) r.id ≡ true → j ≡ k

module _ (app_at : NameList → App) (options : List Rule) (list : NameList) (declared : IsDeclared app_at options list)
    (c : Command) (m : ArgMatches) (is : app_of c ≡ app_at list) (p : IsParsedFrom c m) where
  abbrev rules : List Rule
  rules = mode_rule list ∷ options

  shape : shape_of c ≡ (app_at list).top
  shape = ap (λ (a : App). a.top) is

  simple : IsSimple c
  simple = ready_simple c (ap is_ready shape ∙ declared.ready) (ap (λ (a : App). list_all is_ready_leaf a.subs) is ∙ declared.leaves)

  plain : IsPlain c
  plain =
      let groups = simple_groups c (ap (λ (s : Shape). all_simple s.rules) shape ∙ declared.rules_simple) in
      let free = free_args c simple (ap has_free_rules shape ∙ declared.free) in grind (arith, free, groups, simple.groups)

  parsed : IsParsed p.built (found_of m) (has_subcommand m)
  parsed = p.parsed (p.from.globals ∙ simple.globals)

  rules_are : map rule_of (args_of c) ≡ rules
  rules_are = ap (λ (s : Shape). s.rules) shape ∙ declared.rules

  same_length : length (args_of c) ≡ length rules
  same_length = sym (length-map (args_of c) rule_of) ∙ ap (λ (rs : List Rule). length rs) rules_are

  rule_is : (k : ℕ) (d : Arg) (e : Rule) → k < length rules → rule_of (slice_index_or (args_of c) k d) ≡ slice_index_or rules k e
  rule_is k d e lt =
      let low : k < length (args_of c) = omega (arith, same_length) in
      sym (get_or-map rule_of (args_of c) k d e low) ∙ ap (λ (rs : List Rule). slice_index_or rs k e) rules_are

  id_is : (k : ℕ) (d : Arg) (e : Rule) → k < length rules
      → (slice_index_or (args_of c) k d).id.now ≡ slice_index_or (ids_of rules) k []
  id_is k d e lt = ap (λ (r : Rule). r.id) (rule_is k d e lt) ∙ sym (get_or-map (λ (r : Rule). r.id) rules k e [] lt)

  some_arg : Arg
  some_arg = let same = same_length in first_of_some (args_of c) (omega arith)

  module _ (k : ℕ) (r : Rule) (q : ValueParser) (one : IsRuleOfOne rules k r q) where
    abbrev arg : Arg
    arg = slice_index_or (args_of c) k some_arg

    low : k < length (args_of c)
    low = let same = same_length in let lt = one.low in omega arith

    has_rule : rule_of arg ≡ r
    has_rule = rule_is k some_arg r one.low ∙ one.place

    unique : (j : ℕ) (e : Arg) → j < length (args_of c) → bytes_eq (slice_index_or (args_of c) j e).id.now arg.id.now ≡ true → j ≡ k
    unique j e lt same =
        let within : j < length rules = omega (arith, same_length) in
        one.only j within (sym (ap₂ bytes_eq (id_is j e r within) (ap (λ (x : Rule). x.id) has_rule)) ∙ same)

    not_auto : IsAuto arg → ⊥
    not_auto auto = grind (arith, differs, one.no_help, one.no_version, has_rule)

    is_only : IsOnly p.built arg
    is_only = same_rules_by_id c m p k some_arg low unique not_auto

    value_at : is_some (matched_of (found_of m) arg.id.now) ≡ true → HasValue (found_of m) r.id false q
    value_at has =
        let takes = takes_one arg r has_rule (simple.args k some_arg low) q one.set one.one one.parser_is one.named in
        let value = value_found p.built (found_of m) arg q is_only takes (p.from.plain plain).1 parsed.values has in
        by_rule arg r has_rule (simple.args k some_arg low) q (found_of m) one.case value

    default_at : 0 < length r.defaults → HasValue (found_of m) r.id false q
    default_at some =
        let given = length-map (items_of arg.default_vals) (λ (s : Bor Text). s.now) in
        let ifs = (simple.args k some_arg low).default_ifs in
        let has = default_present c m p simple.globals k some_arg low (ifs, grind (arith, given, has_rule)) in
        value_at (some_entry (found_of m).entries.items arg.id.now has.0 has.1 has.2)

    required_at : r.required ≡ true → HasValue (found_of m) r.id false q
    required_at needed =
        let negates = ap (λ (s : Shape). s.subcommand_negates_reqs) shape ∙ declared.negates in
        let required = ap (λ (x : Rule). x.required) has_rule ∙ needed in
        value_at (present_has_entry (found_of m) arg.id.now
        (required_present c m p plain simple.globals negates k some_arg low required))

  -- a parse that succeeds has a number of each option with a range and a default
  pub number_found : (k : ℕ) (r : Rule) (low high : ℕ) → IsRuleOfOne rules k r (parser.Unsigned low high) → 0 < length r.defaults
      → HasNumber (found_of m) r.id low high
  number_found k r low high one some =
      let value = default_at k r (parser.Unsigned low high) one some in (value.text, value.one, value.accepted)

  -- and the name of one of the modes, where these have the names of the list
  pub mode_found : {M : Type 0} (name_of : M → Text) (modes : List M) → AreNames (map name_of modes) list
      → IsRuleOfOne rules 0 (mode_rule list) (parser.Names list) → HasModeOf name_of modes (found_of m)
  mode_found name_of modes are one =
      let mode = required_at 0 (mode_rule list) (parser.Names list) one refl in
      mode_among name_of (λ (name : Text). first_value (found_of m) (codes "mode") ≡ Some name) mode.text modes mode.first
      (ap (list_any (λ (name : Text). bytes_eq name mode.text)) (sym are)
      ∙ (sym (list_any-map (λ (name : Text). bytes_eq name mode.text) (λ (name : Bor Text). name.now) list.now) ∙ mode.accepted))
