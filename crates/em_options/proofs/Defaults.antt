-- What the options of the command have after a parse: each has a value, by the words or by its default, which passed
-- its parser.
use Rattle.std.proofs.Common.{zero, suc, not, ◌≡◌, ◌∙◌, ◌<◌, ◌≤◌, ◌&&◌, ◌||◌, ℕ, Bool, true, false, List, [], ◌∷◌}
use Rattle.std.proofs.Common.{map, length, is_some, Option, Some, None, refl, sym, ap, subst, inl, inr, arith, codes}
use Rattle.std.specs.Prelude.{option_map, slice_get, nat_lt, IsSome, IsSomeAnd, find}
use Rattle.std.specs.List.{All, list_all, list_any, slice_index_or}
use Rattle.std.specs.Option.{option_map_or}
use Rattle.std.specs.Str.{bytes_eq}
use Rattle.std.specs.Borrow.{Bor}
use Rattle.std.proofs.lemmas.Bool.{eqb-true, ltb-true}
use Rattle.std.proofs.lemmas.List.Elements.{All-get_or}
use Rattle.std.proofs.lemmas.List.Folds.{list_any_at}
use Rattle.std.proofs.lemmas.List.{length-map}
use Rattle.std.proofs.lemmas.Slice.Eq.{bytes_eq-Decides}
use Rattle.clap.specs.Built.{IsAuto, IsParsedFrom, IsPlain, IsPlainArg}
use Rattle.clap.specs.Facts.{Entry, EntryPasses, HasIn, PassesArg, WantsDefault, args_of}
use Rattle.clap.specs.Facts.{groups_of, least_values, parser_of, parser_of_value}
use Rattle.clap.specs.Matches.{found_of, matched_of, first_value}
use Rattle.clap.specs.Texts.{items_of}
use Rattle.clap.specs.Values.{Accepts}
use Rattle.clap.specs.Walk.{Rule, Text, first_of, is_free_arg, is_simple_arg, rows_of, rule_of}
use Rattle.clap.specs.Simple.{App, app_of}
use Rattle.clap.specs.declared.builder.action.ArgAction.{ArgAction}
use Rattle.clap.specs.declared.builder.action.ArgAction.TheVariants.{Count, Set}
use Rattle.clap.specs.declared.builder.arg.Arg.{Arg}
use Rattle.clap.specs.declared.builder.command.Command.{Command}
use Rattle.clap.specs.declared.builder.command.Command.TheViews.{out-Command}
use Rattle.clap.specs.declared.builder.value_parser.ValueParser.{ValueParser}
use Rattle.clap.specs.declared.builder.value_parser.ValueParser.TheVariants.{Unsigned}
use Rattle.clap.specs.declared.parser.matches.ArgMatches.{ArgMatches}
use Rattle.clap.specs.declared.parser.matches.MatchedArg.{MatchedArg}
use Rattle.clap.proofs.CallerLemmas.{default_present, entry_by_id, same_rules_by_id}
use Rattle.clap.proofs.SimpleLemmas.{HasPlainFields, is_false, is_nil, plain_fields}
use Rattle.clap.proofs.WalkLemmas.{both, first_value-rows}
use Rattle.em_options.specs.Options.{IsNumberText, em_bench, has_default, is_number, is_of_numbers, is_option}
use Rattle.em_options.specs.Options.{rule_named, rules}

-- ---- an option with a default, of any command that excludes nothing

-- the argument at this place takes one value, has a default, and has its id alone
record IsOption (old : Command) (k : ℕ) (d : Arg) : Type 0 where
  plain : IsPlain old
  globals : (out-Command old).has_globals ≡ false
  there : k < length (args_of old)
  alone : (j : ℕ) (e : Arg) → j < length (args_of old)
      → bytes_eq (slice_index_or (args_of old) j e).id.now (slice_index_or (args_of old) k d).id.now ≡ true → j ≡ k
  named : (slice_index_or (args_of old) k d).id.now ≡ [] → ⊥
  own : IsAuto (slice_index_or (args_of old) k d) → ⊥
  wants : WantsDefault (slice_index_or (args_of old) k d)
  action : (slice_index_or (args_of old) k d).action ≡ Some Set
  delimiter : (slice_index_or (args_of old) k d).val_delim ≡ None
  least : 1 ≤ least_values (slice_index_or (args_of old) k d)

-- an id that some entry has is found
found_in : (xs : List Entry) (id : Text) → HasIn xs id
    → is_some (option_map (λ (e : Entry). e.1) (find (λ e. bytes_eq e.0.now id) xs)) ≡ true
found_in [] id h = absurd (omega (arith, h.1))
found_in (x ∷ xs) id h = go (bytes_eq x.0.now id) refl (found_in xs id) h
  where
    go : (t : Bool) → bytes_eq x.0.now id ≡ t
        → (HasIn xs id → is_some (option_map (λ (e : Entry). e.1) (find (λ e. bytes_eq e.0.now id) xs)) ≡ true)
        → HasIn (x ∷ xs) id
        → is_some (option_map (λ (e : Entry). e.1) (find (λ e. bytes_eq e.0.now id) (x ∷ xs))) ≡ true
    go true t later h = rw t refl
    go false t later (zero, lt, same) = let bad : false ≡ true = rw t at (same x) in cc
    go false t later (suc i, lt, same) = rw t (later (i, omega arith, same))

first_some : (P : Text → Type 0) (xs : List (Bor Text)) → 0 < length xs → All (λ (s : Bor Text). P s.now) xs
    → IsSomeAnd (option_map (λ (s : Bor Text). s.now) (slice_get xs 0)) P
first_some P [] lt all = absurd (omega arith)
first_some P (x ∷ xs) lt all = All-get_or (λ (s : Bor Text). P s.now) (x ∷ xs) 0 x (omega arith) all

-- the text passed the parser that the caller gave the argument
abbrev Passed : Arg → Text → Type 0
Passed a t = (q : ValueParser) → a.value_parser ≡ Some q → Accepts a.ignore_case q t

passed : (old : Command) (m : ArgMatches) (p : IsParsedFrom old m) (k : ℕ) (d : Arg) → IsOption old k d
    → (w t : Text) → w ≡ (slice_index_or (args_of old) k d).id.now → PassesArg p.built w t
    → Passed (slice_index_or (args_of old) k d) t
passed old m p k d o w t key pass q parser =
    let same : bytes_eq pass.1.id.now (slice_index_or (args_of old) k d).id.now ≡ true =
    subst (λ (u : Text). bytes_eq pass.1.id.now u ≡ true) key pass.4.0 in
    let s = same_rules_by_id old m p k d o.there o.alone o.own pass.0 pass.1 pass.2 pass.3 same in
    let is_q : parser_of pass.1 ≡ q = ap parser_of_value (s.parser q parser) in
    let as_q : Accepts pass.1.ignore_case q t =
    subst (λ (w : ValueParser). Accepts pass.1.ignore_case w t) is_q pass.4.1 in
    subst (λ (b : Bool). Accepts b q t) s.ignore_case as_q

-- the entry of such an option has a value, which passed
entry_value : (old : Command) (m : ArgMatches) (p : IsParsedFrom old m) (k : ℕ) (d : Arg) → IsOption old k d
    → (e : Entry) → e.0.now ≡ (slice_index_or (args_of old) k d).id.now → EntryPasses p.built e
    → IsSomeAnd (option_map (λ (s : Bor Text). s.now) (slice_get e.1.vals.items 0))
    (Passed (slice_index_or (args_of old) k d))
entry_value old m p k d o e key pass =
    let no_groups : groups_of p.built ≡ [] = (p.from.plain o.plain).1 in
    let no_group : e.1.is_group ≡ true → ⊥ = λ g. elim (pass.3 g) [
      | inl empty ↦ o.named (sym key ∙ empty)
      | inr lots ↦
          let bad : 0 < 0 = rw no_groups at lots in
          absurd (omega arith)
    ] in
    let some : 0 < length e.1.vals.items = elim pass.1 [
      | inl h ↦ absurd (no_group h.0)
      | inr (inl v) ↦ v
      | inr (inr (inl h)) ↦
          let any = h.1 in
          let s = same_rules_by_id old m p k d o.there o.alone o.own any.0 any.1 any.2 any.3
          (rw key at any.4.0) in
          let is_set : any.1.action ≡ Some Set = s.action Set o.action in
          let bad : Set ≡ Count = rw is_set at any.4.1 in
          cc
      | inr (inr (inr h)) ↦
          let s = same_rules_by_id old m p k d o.there o.alone o.own h.0 h.1 h.2 h.3 (rw key at h.4.0) in
          elim h.4.1 [
            | inl none ↦
                let one = s.least o.action o.least in
                absurd (omega arith)
            | inr has ↦
                let bad : false ≡ true = rw (s.val_delim, o.delimiter) at has in
                cc
          ]
    ] in
    let all : All (λ (v : Bor Text). Passed (slice_index_or (args_of old) k d) v.now) e.1.vals.items = elim pass.0 [
      | inl g ↦ absurd (no_group g)
      | inr vals ↦ λ i v lt. passed old m p k d o e.0.now (slice_index_or e.1.vals.items i v).now key (vals i v lt)
    ] in
    first_some (Passed (slice_index_or (args_of old) k d)) e.1.vals.items some all

-- such an option has a value, which passed
option_value : (old : Command) (m : ArgMatches) → IsParsedFrom old m → (k : ℕ) (d : Arg) → IsOption old k d
    → IsSomeAnd (first_of (slice_index_or (args_of old) k d).id.now (rows_of (found_of m)))
    (Passed (slice_index_or (args_of old) k d))
option_value old m p k d o =
    let id = (slice_index_or (args_of old) k d).id.now in
    let parsed = p.parsed (p.from.globals ∙ o.globals) in
    let there = found_in (found_of m).entries.items id (default_present old m p o.globals k d o.there o.wants) in
    rw (← first_value-rows (found_of m) id) (go (matched_of (found_of m) id) refl there)
  where
    go : (found : Option MatchedArg) → matched_of (found_of m) (slice_index_or (args_of old) k d).id.now ≡ found
        → is_some (matched_of (found_of m) (slice_index_or (args_of old) k d).id.now) ≡ true
        → IsSomeAnd (first_value (found_of m) (slice_index_or (args_of old) k d).id.now)
        (Passed (slice_index_or (args_of old) k d))
    go None e some = let bad : false ≡ true = rw e at some in cc
    go (Some x) e some =
        let parsed = p.parsed (p.from.globals ∙ o.globals) in
        let id = (slice_index_or (args_of old) k d).id.now in
        let got = entry_by_id (EntryPasses p.built) (found_of m).entries.items id x parsed.values e in
        let key = (bytes_eq-Decides got.0.0.now (slice_index_or (args_of old) k d).id.now).0 got.2 in
        let value = entry_value old m p k d o got.0 key got.3 in
        let has : MatchedArg → Type 0 = λ y. IsSomeAnd (option_map (λ (s : Bor Text). s.now) (slice_get y.vals.items 0))
        (Passed (slice_index_or (args_of old) k d)) in
        rw e (subst has got.1 value)

-- ---- the facts of an option, from its rule

rule_at : (xs : List Arg) (k : ℕ) (d : Arg)
    → rule_of (slice_index_or xs k d) ≡ slice_index_or (map rule_of xs) k (rule_of d)
rule_at [] k d = refl
rule_at (x ∷ xs) zero d = refl
rule_at (x ∷ xs) (suc k) d = rule_at xs k d

is_none : {X : Type 0} (o : Option X) → not (is_some o) ≡ true → o ≡ None
is_none None e = refl
is_none (Some x) e = cc

plain_arg : (a : Arg) → (is_simple_arg a && is_free_arg a) ≡ true → IsPlainArg a
plain_arg a e =
    let parts = both (is_simple_arg a) (is_free_arg a) e in
    let p = both _ _ parts.0 in
    let q = both _ _ p.1 in
    let r = both _ _ q.1 in
    let f = both _ _ parts.1 in
    let g = both _ _ f.1 in
    (is_false _ f.0, is_nil _ g.0, is_nil _ p.0, is_nil _ r.0)

plain_args : (xs : List Arg) → list_all (λ (r : Rule). r.is_simple && r.is_free) (map rule_of xs) ≡ true
    → All IsPlainArg xs
plain_args [] e k d lt = absurd (omega arith)
plain_args (x ∷ xs) e zero d lt = plain_arg x (both _ _ e).0
plain_args (x ∷ xs) e (suc k) d lt = plain_args xs (both _ _ e).1 k d (omega arith)

-- the delimiter and the conditions of defaults of an argument that is simple
undelimited : (a : Arg) → is_simple_arg a ≡ true → (a.val_delim ≡ None) × (a.default_vals_ifs.items ≡ [])
undelimited a e =
    let p = both _ _ e in
    let q = both _ _ p.1 in
    let r = both _ _ q.1 in
    let s = both _ _ r.1 in
    (is_none _ s.0, is_nil _ q.0)

abbrev is_set : Option ArgAction → Bool
is_set (Some Set) = true
is_set _ = false

set_is : (o : Option ArgAction) → is_set o ≡ true → o ≡ Some Set
set_is (Some Set) e = refl
set_is _ e = cc

-- an argument with the rule of an option
option_arg : (a : Arg) (r : Rule) → rule_of a ≡ r → is_set r.action ≡ true → not (is_some r.range) ≡ true
    → has_default r ≡ true → r.is_simple ≡ true
    → WantsDefault a × (a.action ≡ Some Set) × (a.val_delim ≡ None) × (1 ≤ least_values a)
option_arg a r is action range has simple =
    let free = undelimited a (ap (λ (x : Rule). x.is_simple) is ∙ simple) in
    let one : a.num_vals ≡ None = is_none _ (rw (ap (λ (x : Rule). x.range) is) range) in
    let some : 0 < length (items_of a.default_vals) =
    omega (
      arith,
      ltb-true 0 (length r.defaults) has,
      ap (λ (x : Rule). length x.defaults) is,
      length-map (items_of a.default_vals) (λ (s : Bor Text). s.now),
    ) in (
      (free.1, some),
      ap (λ (x : Rule). x.action) is ∙ set_is _ action,
      free.0,
      rw one (omega arith),
    )

-- ---- rules by their names

-- no two of these rules have one name
abbrev are_apart : List Rule → Bool
are_apart [] = true
are_apart (r ∷ rs) = not (list_any (λ (s : Rule). bytes_eq s.id r.id) rs) && are_apart rs

met : (r : Rule) (rs : List Rule) (k : ℕ) (d : Rule) → k < length rs → (slice_index_or rs k d).id ≡ r.id
    → not (list_any (λ (s : Rule). bytes_eq s.id r.id) rs) ≡ true → ⊥
met r rs k d lt same none =
    let one = (bytes_eq-Decides (slice_index_or rs k d).id r.id).1 same in
    let found = list_any_at (λ (s : Rule). bytes_eq s.id r.id) rs k d lt one in
    let bad : false ≡ true = rw found at none in
    cc

apart : (rs : List Rule) → are_apart rs ≡ true → (j k : ℕ) (e d : Rule) → j < length rs → k < length rs
    → (slice_index_or rs j e).id ≡ (slice_index_or rs k d).id → j ≡ k
apart [] are j k e d below within same = absurd (omega arith)
apart (r ∷ rs) are zero zero e d below within same = refl
apart (r ∷ rs) are zero (suc k) e d below within same =
    absurd (met r rs k d (omega arith) (sym same) (both _ _ are).0)
apart (r ∷ rs) are (suc j) zero e d below within same = absurd (met r rs j e (omega arith) same (both _ _ are).0)
apart (r ∷ rs) are (suc j) (suc k) e d below within same =
    ap suc (apart rs (both _ _ are).1 j k e d (omega arith) (omega arith) same)

passes_at : (p : Rule → Bool) (rs : List Rule) → list_all p rs ≡ true → (k : ℕ) (d : Rule) → k < length rs
    → p (slice_index_or rs k d) ≡ true
passes_at p [] all k d lt = absurd (omega arith)
passes_at p (r ∷ rs) all zero d lt = (both _ _ all).0
passes_at p (r ∷ rs) all (suc k) d lt = passes_at p rs (both _ _ all).1 k d (omega arith)

-- a rule stands at this place, and has this name
record IsAt (rs : List Rule) (k : ℕ) (name : Text) (r : Rule) : Type 0 where
  within : k < length rs
  rule : (d : Rule) → slice_index_or rs k d ≡ r
  id : r.id ≡ name

place_of : (rs : List Rule) (name : Text) (r : Rule) → find (λ (s : Rule). bytes_eq s.id name) rs ≡ Some r
    → (k : ℕ) × IsAt rs k name r
place_of [] name r found = cc
place_of (x ∷ rs) name r found = go (bytes_eq x.id name) refl (place_of rs name r) found
  where
    go : (t : Bool) → bytes_eq x.id name ≡ t
        → (find (λ (s : Rule). bytes_eq s.id name) rs ≡ Some r → (k : ℕ) × IsAt rs k name r)
        → find (λ (s : Rule). bytes_eq s.id name) (x ∷ rs) ≡ Some r → (k : ℕ) × IsAt (x ∷ rs) k name r
    go true t later here =
        let some : Some x ≡ Some r = rw t at here in
        let one : x ≡ r = cc in
        let named : r.id ≡ name = subst (λ (s : Rule). s.id ≡ name) one ((bytes_eq-Decides x.id name).0 t) in
        (0, record { within = omega arith; rule = λ d. one; id = named })
    go false t later there =
        let behind = later (rw t at there) in (
          suc behind.0,
          record {
            within = omega (arith, behind.1.within);
            rule = λ d. behind.1.rule d;
            id = behind.1.id;
          },
        )

-- ---- the options of the command

-- of a rule with a default: its option takes one value, and the parser has no option of this name of its own
abbrev is_own : Rule → Bool
is_own r = (is_set r.action && not (is_some r.range)) && (r.is_simple && (nat_lt 0 (length r.id)
    && (not (bytes_eq r.id (codes "help")) && not (bytes_eq r.id (codes "version")))))

is_own_of : (r : Rule) → has_default r ≡ true → (not (has_default r) || is_own r) ≡ true → is_own r ≡ true
is_own_of r has e = rw has at e

is_other : (x y : Text) → not (bytes_eq x y) ≡ true → x ≡ y → ⊥
is_other x y e same =
    let one = (bytes_eq-Decides x y).1 same in
    let bad : false ≡ true = rw one at e in
    cc

rules_are_apart : are_apart rules ≡ true
rules_are_apart = refl

options_are_own : list_all (λ (r : Rule). not (has_default r) || is_own r) rules ≡ true
options_are_own = refl

-- the command has these arguments, and nothing in it excludes anything
arguments : (c : Command) → app_of c ≡ em_bench → map rule_of (args_of c) ≡ rules
unfolding em_bench
arguments c same = ap (λ (a : App). a.top.rules) same

plain_settings : (c : Command) → app_of c ≡ em_bench → HasPlainFields c
unfolding em_bench
plain_settings c same = plain_fields c (ap (λ (a : App). a.top.is_plain) same)

excludes_nothing : (c : Command) → app_of c ≡ em_bench → IsPlain c
excludes_nothing c same =
    let are_plain = ap (list_all (λ (r : Rule). r.is_simple && r.is_free)) (arguments c same) in
    (plain_args (args_of c) are_plain, (plain_settings c same).groups)

rule_by : (c : Command) (j : ℕ) (e : Arg) → app_of c ≡ em_bench
    → rule_of (slice_index_or (args_of c) j e) ≡ slice_index_or rules j (rule_of e)
rule_by c j e same =
    rule_at (args_of c) j e ∙ ap (λ (l : List Rule). slice_index_or l j (rule_of e)) (arguments c same)

the_option : (c : Command) (k : ℕ) (d : Arg) (name : Text) (r : Rule) → app_of c ≡ em_bench → IsAt rules k name r
    → has_default r ≡ true
    → ((slice_index_or (args_of c) k d).id.now ≡ name)
    × ((slice_index_or (args_of c) k d).value_parser ≡ r.parser) × IsOption c k d
the_option c k d name r same n has =
    let a = slice_index_or (args_of c) k d in
    let many : length (args_of c) ≡ length rules =
    sym (length-map (args_of c) rule_of) ∙ ap length (arguments c same) in
    let rule : rule_of a ≡ r = rule_by c k d same ∙ n.rule (rule_of d) in
    let id : a.id.now ≡ name = ap (λ (x : Rule). x.id) rule ∙ n.id in
    let fits : is_own r ≡ true =
    is_own_of r has (subst (λ (x : Rule). (not (has_default x) || is_own x) ≡ true) (n.rule r)
    (passes_at (λ (x : Rule). not (has_default x) || is_own x) rules options_are_own k r n.within)) in
    let p = both _ _ fits in
    let used = both _ _ p.0 in
    let simple = both _ _ p.1 in
    let named = both _ _ simple.1 in
    let own = both _ _ named.1 in
    let facts = option_arg a r rule used.0 used.1 has simple.0 in (
      id,
      ap (λ (x : Rule). x.parser) rule,
      record {
        plain = excludes_nothing c same;
        globals = (plain_settings c same).globals;
        there = rw many n.within;
        alone = λ j e lt one.
            apart rules rules_are_apart j k (rule_of e) (rule_of d) (rw many at lt) n.within
            (sym (ap (λ (x : Rule). x.id) (rule_by c j e same))
            ∙ (bytes_eq-Decides (slice_index_or (args_of c) j e).id.now a.id.now).0 one
            ∙ ap (λ (x : Rule). x.id) (rule_by c k d same));
        named = λ empty.
            let none : length r.id ≡ 0 = ap length (n.id ∙ sym id ∙ empty) in
            let some : 0 < length r.id = ltb-true 0 (length r.id) named.0 in
            absurd (omega arith);
        own = λ auto. elim auto [
          | inl h ↦ is_other r.id (codes "help") own.0 (n.id ∙ sym id ∙ h)
          | inr h ↦ is_other r.id (codes "version") own.1 (n.id ∙ sym id ∙ h)
        ];
        wants = facts.0;
        action = facts.1;
        delimiter = facts.2;
        least = facts.3;
      },
    )

-- an argument of the command
some_arg : (xs : List Arg) → 0 < length xs → Arg
some_arg [] some = absurd (omega arith)
some_arg (x ∷ xs) some = x

-- after a parse the option has a text, which passed its parser
given : (c : Command) (m : ArgMatches) (name : Text) (r : Rule) → app_of c ≡ em_bench → IsParsedFrom c m
    → rule_named name ≡ Some r → has_default r ≡ true
    → (a : Arg) × (a.value_parser ≡ r.parser) × IsSomeAnd (first_of name (rows_of (found_of m))) (Passed a)
given c m name r same p found has =
    let at = place_of rules name r found in
    let many : length (args_of c) ≡ length rules =
    sym (length-map (args_of c) rule_of) ∙ ap length (arguments c same) in
    let d = some_arg (args_of c) (omega (arith, many, at.1.within)) in
    let o = the_option c at.0 d name r same at.1 has in
    let value = option_value c m p at.0 d o.2 in
    let text : Text → Type 0 = λ t.
    IsSomeAnd (first_of t (rows_of (found_of m))) (Passed (slice_index_or (args_of c) at.0 d)) in
    (slice_index_or (args_of c) at.0 d, o.1, subst text o.0 value)

of_numbers : (o : Option ValueParser) → is_of_numbers o ≡ true → o ≡ Some (Unsigned 0 18446744073709551615)
of_numbers (Some (Unsigned least most)) e =
    let p = both _ _ e in
    let low : least ≡ 0 = eqb-true _ _ p.0 in
    let high : most ≡ 18446744073709551615 = eqb-true _ _ p.1 in
    rw (low, high) refl
of_numbers _ e = cc

-- and it is a number where that parser is one of numbers
number_text : (a : Arg) (o : Option Text) → is_of_numbers a.value_parser ≡ true → IsSomeAnd o (Passed a)
    → IsSomeAnd o IsNumberText
number_text a None parser h = h
number_text a (Some t) parser h =
    let accepted = h (Unsigned 0 18446744073709551615) (of_numbers a.value_parser parser) in
    (accepted.0, accepted.1)

some_of : (a : Arg) (o : Option Text) → IsSomeAnd o (Passed a) → IsSome o
some_of a None h = absurd h
some_of a (Some t) h = refl

pub option_given : (c : Command) (m : ArgMatches) (name : Text) → app_of c ≡ em_bench → IsParsedFrom c m
    → is_option name ≡ true → IsSome (first_of name (rows_of (found_of m)))
option_given c m name same p is = go (rule_named name) refl is
  where
    go : (o : Option Rule) → rule_named name ≡ o → option_map_or has_default o false ≡ true
        → IsSome (first_of name (rows_of (found_of m)))
    go None found has = cc
    go (Some r) found has = let g = given c m name r same p found has in some_of g.0 _ g.2

pub number_given : (c : Command) (m : ArgMatches) (name : Text) → app_of c ≡ em_bench → IsParsedFrom c m
    → is_number name ≡ true → IsSomeAnd (first_of name (rows_of (found_of m))) IsNumberText
number_given c m name same p is = go (rule_named name) refl is
  where
    go : (o : Option Rule) → rule_named name ≡ o
        → option_map_or (λ (rule : Rule). has_default rule && is_of_numbers rule.parser) o false ≡ true
        → IsSomeAnd (first_of name (rows_of (found_of m))) IsNumberText
    go None found has = cc
    go (Some r) found has =
        let parts = both _ _ has in
        let g = given c m name r same p found parts.0 in
        number_text g.0 _ (rw g.1 parts.1) g.2
