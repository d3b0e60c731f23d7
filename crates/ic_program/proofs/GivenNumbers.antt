-- The numbers that options are given.
use Rattle.std.proofs.Common.{◌≡◌, ◌∙◌, ◌<◌, ◌≤◌, ◌^◌, ◌⊎◌, ap, ap₂, codes, ℕ, Bool, true, false, zero, suc, slice_index, List, [], ◌∷◌, length, Option, Some, None, map, refl, sym, subst, inl, inr, arith}
use Rattle.std.specs.List.{All, slice_index_or}
use Rattle.std.specs.Str.{bytes_eq}
use Rattle.std.specs.Prelude.{option_map, slice_get, unwrap_or, pos, Result, Ok}
use Rattle.std.specs.Borrow.{Bor}
use Rattle.std.specs.Str.Parse.{ParsesUnsigned}
use Rattle.std.proofs.lemmas.Slice.Eq.{bytes_eq-Decides}
use Rattle.std.proofs.lemmas.List.Elements.{All-get_or}
use Rattle.std.proofs.lemmas.List.{length-map}
use Rattle.clap.specs.Facts.{Entry, EntryPasses, HasReading, PassesArg, args_of, groups_of, parser_of_value}
use Rattle.clap.specs.Built.{IsAuto, IsParsedFrom, IsPlain, SameRules}
use Rattle.clap.specs.Matches.{ReadsOne, found_of, matched_of, one_text}
use Rattle.clap.specs.Values.{Accepts, read_as, reading_of}
use Rattle.clap.specs.Words.{App, HasMatchesOf, Rule, Text, app_of, is_simple, matches_of, one_of, rule_of}
use Rattle.clap.proofs.CallerLemmas.{entry_by_id, same_rules_by_id}
use Rattle.clap.proofs.CallerReads.{signed_reads}
use Rattle.clap.proofs.WalkLemmas.{one_text-rows}
use Rattle.clap.specs.declared.builder.arg.Arg.{Arg}
use Rattle.clap.specs.declared.builder.command.Command.{Command}
use Rattle.clap.specs.declared.builder.command.Command.TheViews.{out-Command}
use Rattle.clap.specs.declared.builder.value_parser.Reading.{Reading}
use Rattle.clap.specs.declared.builder.value_parser.ValueParser.{ValueParser}
use Rattle.clap.specs.declared.builder.value_parser.ValueParser.TheVariants.{Signed}
use Rattle.clap.specs.declared.parser.matches.ArgMatches.{ArgMatches}
use Rattle.clap.specs.declared.parser.matches.MatchedArg.{MatchedArg}
use Rattle.ic_program.specs.CommandLine.{IsChoice, icbench}

-- the first value, of values of which each has a property
first_value : (P : Bor (List ℕ) → Type 0) (how : Reading) (vs : List (Bor (List ℕ))) (t : List ℕ) → All P vs
    → option_map (λ s. read_as how s.now) (slice_get vs 0) ≡ Some t
    → (v : Bor (List ℕ)) × (t ≡ read_as how v.now) × P v
first_value P how [] t all is = cc
first_value P how (v ∷ vs) t all is = (v, ap (λ o. unwrap_or o t) (sym is), All-get_or P (v ∷ vs) 0 v (omega arith) all)

-- the text of an entry of an argument: it passed, and is read in the argument's way
entry_text : (c : Command) (id : List ℕ) (Q : List ℕ → Type 0) (how : Reading) (x : MatchedArg) (t : List ℕ)
    → groups_of c ≡ [] → (id ≡ [] → ⊥) → ((r : Reading) → HasReading c id r → r ≡ how)
    → ((v : Bor (List ℕ)) → PassesArg c id v.now → Q v.now)
    → option_map (λ s. read_as x.reading s.now) (slice_get x.vals.items 0) ≡ Some t
    → (e : Entry) → e.1 ≡ x → e.0.now ≡ id → EntryPasses c e
    → (v : List ℕ) × (t ≡ read_as how v) × Q v
entry_text c id Q how x t no_groups named reads passes is e same key pass =
    let no_group : e.1.is_group ≡ true → ⊥ = λ g. elim (pass.3 g) [
      | inl empty ↦ named (sym key ∙ empty)
      | inr some ↦
          let bad : 0 < 0 = rw no_groups at some in
          absurd (omega arith)
    ] in
    let all : All (λ v. PassesArg c id v.now) x.vals.items = elim pass.0 [
      | inl g ↦ absurd (no_group g)
      | inr values ↦ subst (λ (w : List ℕ). All (λ v. PassesArg c w v.now) x.vals.items) key (rw same at values)
    ] in
    let reading : e.1.reading ≡ how = elim pass.4 [
      | inl g ↦ absurd (no_group g)
      | inr has ↦ reads e.1.reading (subst (λ (w : List ℕ). HasReading c w e.1.reading) key has)
    ] in
    let as_how : x.reading ≡ how = ap (λ (y : MatchedArg). y.reading) (sym same) ∙ reading in
    let first = first_value (λ v. PassesArg c id v.now) how x.vals.items t all (subst (λ (r : Reading). option_map (λ s. read_as r s.now) (slice_get x.vals.items 0) ≡ Some t) as_how is) in
    (first.0.now, first.1, passes first.0 first.2)

-- an argument of the caller's, alone in its id
record IsOwn (old : Command) (k : ℕ) (d : Arg) : Type 0 where
  stands : k < length (args_of old)
  alone : (j : ℕ) (e : Arg) → j < length (args_of old)
      → bytes_eq (slice_index_or (args_of old) j e).id.now (slice_index_or (args_of old) k d).id.now ≡ true → j ≡ k
  named : (slice_index_or (args_of old) k d).id.now ≡ [] → ⊥
  own : IsAuto (slice_index_or (args_of old) k d) → ⊥

-- such an argument's text passed its parser, and is read as the parser says
given_text : (old : Command) (m : ArgMatches) (p : IsParsedFrom old m) → IsPlain old → (out-Command old).has_globals ≡ false
    → (k : ℕ) (d : Arg) → IsOwn old k d → (q : ValueParser) → (slice_index_or (args_of old) k d).value_parser ≡ Some q
    → (t : List ℕ) → one_text (found_of m) (slice_index_or (args_of old) k d).id.now ≡ Some t
    → (v : List ℕ) × (t ≡ read_as (reading_of q) v) × Accepts (slice_index_or (args_of old) k d).ignore_case q v
given_text old m p plain local k d own q parser t is = go (matched_of (found_of m) (slice_index_or (args_of old) k d).id.now) refl is
  where
    rules : (x : Arg) (j : ℕ) → j < length (args_of p.built) → slice_index_or (args_of p.built) j x ≡ x
        → bytes_eq x.id.now (slice_index_or (args_of old) k d).id.now ≡ true → SameRules (slice_index_or (args_of old) k d) x
    rules x j lt at same = same_rules_by_id old m p k d own.stands own.alone own.own j x lt at same

    reads : (r : Reading) → HasReading p.built (slice_index_or (args_of old) k d).id.now r → r ≡ reading_of q
    reads r any = sym any.4.1 ∙ ap reading_of (ap parser_of_value ((rules any.1 any.0 any.2 any.3 any.4.0).parser q parser))

    passes : (v : Bor (List ℕ)) → PassesArg p.built (slice_index_or (args_of old) k d).id.now v.now → Accepts (slice_index_or (args_of old) k d).ignore_case q v.now
    passes v any =
        let same = rules any.1 any.0 any.2 any.3 any.4.0 in
        let by : Accepts any.1.ignore_case q v.now = subst (λ (w : ValueParser). Accepts any.1.ignore_case w v.now) (ap parser_of_value (same.parser q parser)) any.4.1 in
        subst (λ (b : Bool). Accepts b q v.now) same.ignore_case by

    go : (o : Option MatchedArg) → matched_of (found_of m) (slice_index_or (args_of old) k d).id.now ≡ o
        → one_text (found_of m) (slice_index_or (args_of old) k d).id.now ≡ Some t
        → (v : List ℕ) × (t ≡ read_as (reading_of q) v) × Accepts (slice_index_or (args_of old) k d).ignore_case q v
    go None e text =
        let bad : None ≡ Some t = rw e at text in
        cc
    go (Some x) e text =
        let parsed = p.parsed (p.from.globals ∙ local) in
        let got = entry_by_id (EntryPasses p.built) (found_of m).entries.items (slice_index_or (args_of old) k d).id.now x parsed.values e in
        entry_text p.built (slice_index_or (args_of old) k d).id.now (Accepts (slice_index_or (args_of old) k d).ignore_case q) (reading_of q) x t
        (p.from.plain plain).1 own.named reads passes (rw e at text) got.0 got.1 ((bytes_eq-Decides got.0.0.now (slice_index_or (args_of old) k d).id.now).0 got.2) got.3

-- the number that such an argument gives, or what stands for it, lies in the range
given_number : (old : Command) (m : ArgMatches) (p : IsParsedFrom old m) → IsPlain old → (out-Command old).has_globals ≡ false
    → (k : ℕ) (d : Arg) → IsOwn old k d → (name : List ℕ) → (slice_index_or (args_of old) k d).id.now ≡ name
    → (low high width : ℕ) → high < 2 ^ width → (slice_index_or (args_of old) k d).value_parser ≡ Some (Signed (pos low) (pos high))
    → (E : Type 0) (G : List ℕ → Result ℕ E → Type 0) → ((u : List ℕ) (x : Result ℕ E) → G u x → ParsesUnsigned width 10 u x)
    → (r : Option ℕ) → (one_text (found_of m) name ≡ None → r ≡ None) → ((t : List ℕ) → one_text (found_of m) name ≡ Some t → ReadsOne G t r)
    → (otherwise n : ℕ) → n ≡ unwrap_or r otherwise → low ≤ otherwise → otherwise ≤ high
    → IsChoice otherwise low high (one_text (found_of m) name) n
given_number old m p plain local k d own name id low high width fits parser E G only r none value otherwise n is least most =
    go (one_text (found_of m) name) refl
  where
    go : (o : Option (List ℕ)) → one_text (found_of m) name ≡ o → IsChoice otherwise low high o n
    go None e =
        let same : n ≡ otherwise = is ∙ ap (λ (o : Option ℕ). unwrap_or o otherwise) (none e) in
        record { number = same; least = rw same least; most = rw same most }
    go (Some t) e =
        let given = given_text old m p plain local k d own (Signed (pos low) (pos high)) parser t (subst (λ (w : List ℕ). one_text (found_of m) w ≡ Some t) (sym id) e) in
        let read = signed_reads E G width low high given.0 r (subst (λ (u : List ℕ). ReadsOne G u r) given.1 (value t e)) only fits given.2 in
        let same : n ≡ read.0 = is ∙ ap (λ (o : Option ℕ). unwrap_or o otherwise) read.1 in
        let parsed = only t (Ok read.0) (subst (λ (o : Option ℕ). ReadsOne G t o) read.1 (value t e)) in
        record { number = same ∙ parsed.1; least = rw same read.2; most = rw same read.3 }

-- the rule of the argument at a place
rule_at : (xs : List Arg) (j : ℕ) (e : Arg) → rule_of (slice_index_or xs j e) ≡ slice_index_or (map rule_of xs) j (rule_of e)
rule_at [] j e = refl
rule_at (x ∷ xs) zero e = refl
rule_at (x ∷ xs) (suc j) e = rule_at xs j e

-- is that of the program
program_rule : (old : Command) → app_of old ≡ icbench → (j : ℕ) (e : Arg) → rule_of (slice_index_or (args_of old) j e) ≡ slice_index_or icbench.top.rules j (rule_of e)
program_rule old shape j e = rule_at (args_of old) j e ∙ ap (λ (a : App). slice_index_or a.top.rules j (rule_of e)) shape

-- as many as the program has
rule_count : (old : Command) → app_of old ≡ icbench → length (args_of old) ≡ 7
rule_count old shape = sym (length-map (args_of old) rule_of) ∙ ap (λ (a : App). length a.top.rules) shape

-- one of the arguments
an_argument : (xs : List Arg) → length xs ≡ 7 → Arg
an_argument [] is = absurd (omega (arith, is))
an_argument (x ∷ xs) is = x

-- the first argument alone is called workers
workers_alone : (j : ℕ) (r : Rule) → j < 7 → bytes_eq (slice_index_or icbench.top.rules j r).id (codes "workers") ≡ true → j ≡ 0
workers_alone zero r lt same = refl
workers_alone (suc zero) r lt same = let no : false ≡ true = same in cc
workers_alone (suc (suc zero)) r lt same = let no : false ≡ true = same in cc
workers_alone (suc (suc (suc zero))) r lt same = let no : false ≡ true = same in cc
workers_alone (suc (suc (suc (suc zero)))) r lt same = let no : false ≡ true = same in cc
workers_alone (suc (suc (suc (suc (suc zero))))) r lt same = let no : false ≡ true = same in cc
workers_alone (suc (suc (suc (suc (suc (suc zero)))))) r lt same = let no : false ≡ true = same in cc
workers_alone (suc (suc (suc (suc (suc (suc (suc j))))))) r lt same = absurd (omega arith)

-- and the second alone is called budget
budget_alone : (j : ℕ) (r : Rule) → j < 7 → bytes_eq (slice_index_or icbench.top.rules j r).id (codes "budget") ≡ true → j ≡ 1
budget_alone zero r lt same = let no : false ≡ true = same in cc
budget_alone (suc zero) r lt same = refl
budget_alone (suc (suc zero)) r lt same = let no : false ≡ true = same in cc
budget_alone (suc (suc (suc zero))) r lt same = let no : false ≡ true = same in cc
budget_alone (suc (suc (suc (suc zero)))) r lt same = let no : false ≡ true = same in cc
budget_alone (suc (suc (suc (suc (suc zero))))) r lt same = let no : false ≡ true = same in cc
budget_alone (suc (suc (suc (suc (suc (suc zero)))))) r lt same = let no : false ≡ true = same in cc
budget_alone (suc (suc (suc (suc (suc (suc (suc j))))))) r lt same = absurd (omega arith)

-- an argument of this name is the caller's own: the name's first letter is none of those of the flags that clap adds
own_at : (old : Command) (shape : app_of old ≡ icbench) (k : ℕ) (d : Arg) (name : List ℕ) → k < 7 → (slice_index_or (args_of old) k d).id.now ≡ name
    → ((j : ℕ) (r : Rule) → j < 7 → bytes_eq (slice_index_or icbench.top.rules j r).id name ≡ true → j ≡ k)
    → (slice_index name 0 ≡ 0 → ⊥) → (slice_index name 0 ≡ 104 → ⊥) → (slice_index name 0 ≡ 118 → ⊥) → IsOwn old k d
own_at old shape k d name stands id alone some help version = record {
  stands = subst (λ n. k < n) (sym (rule_count old shape)) stands;
  alone = λ j e lt same. alone j (rule_of e) (subst (λ n. j < n) (rule_count old shape) lt)
      (subst (λ t. bytes_eq t name ≡ true) (ap (λ (r : Rule). r.id) (program_rule old shape j e)) (subst (λ t. bytes_eq (slice_index_or (args_of old) j e).id.now t ≡ true) id same));
  named = λ empty. some (ap (λ (t : List ℕ). slice_index t 0) (sym id ∙ empty));
  own = λ flag. elim flag [
    | inl asks ↦ help (ap (λ (t : List ℕ). slice_index t 0) (sym id ∙ asks))
    | inr asks ↦ version (ap (λ (t : List ℕ). slice_index t 0) (sym id ∙ asks))
  ];
}

-- the text that an option was given is that of the words
pub chosen_text : (old : Command) (m : ArgMatches) (words : List Text) (name : List ℕ) → app_of old ≡ icbench → HasMatchesOf (app_of old) words m
    → one_text (found_of m) name ≡ one_of name (matches_of icbench words)
chosen_text old m words name shape matches =
    one_text-rows (found_of m) name ∙ ap (one_of name) ((matches (ap is_simple shape)).0) ∙ ap (λ (a : App). one_of name (matches_of a words)) shape

-- the workers that the words choose
pub workers_chosen : (old : Command) (m : ArgMatches) (words : List Text) → IsParsedFrom old m → IsPlain old → (out-Command old).has_globals ≡ false
    → app_of old ≡ icbench → HasMatchesOf (app_of old) words m
    → (E : Type 0) (G : List ℕ → Result ℕ E → Type 0) → ((u : List ℕ) (x : Result ℕ E) → G u x → ParsesUnsigned 8 10 u x)
    → (r : Option ℕ) → (one_text (found_of m) (codes "workers") ≡ None → r ≡ None) → ((t : List ℕ) → one_text (found_of m) (codes "workers") ≡ Some t → ReadsOne G t r)
    → (n : ℕ) → n ≡ unwrap_or r 1 → IsChoice 1 1 64 (one_of (codes "workers") (matches_of icbench words)) n
workers_chosen old m words p plain local shape matches E G only r none value n is =
    let d = an_argument (args_of old) (rule_count old shape) in
    let rule = program_rule old shape 0 d in
    let id : (slice_index_or (args_of old) 0 d).id.now ≡ codes "workers" = ap (λ (r : Rule). r.id) rule in
    let own = own_at old shape 0 d (codes "workers") (omega arith) id workers_alone (λ e. absurd (omega (arith, e))) (λ e. absurd (omega (arith, e))) (λ e. absurd (omega (arith, e))) in
    subst (λ (o : Option (List ℕ)). IsChoice 1 1 64 o n) (chosen_text old m words (codes "workers") shape matches)
    (given_number old m p plain local 0 d own (codes "workers") id 1 64 8 (omega arith) (ap (λ (r : Rule). r.parser) rule) E G only r none value 1 n is (omega arith) (omega arith))

-- the budget that the words choose
pub budget_chosen : (old : Command) (m : ArgMatches) (words : List Text) → IsParsedFrom old m → IsPlain old → (out-Command old).has_globals ≡ false
    → app_of old ≡ icbench → HasMatchesOf (app_of old) words m
    → (E : Type 0) (G : List ℕ → Result ℕ E → Type 0) → ((u : List ℕ) (x : Result ℕ E) → G u x → ParsesUnsigned 32 10 u x)
    → (r : Option ℕ) → (one_text (found_of m) (codes "budget") ≡ None → r ≡ None) → ((t : List ℕ) → one_text (found_of m) (codes "budget") ≡ Some t → ReadsOne G t r)
    → (n : ℕ) → n ≡ unwrap_or r 1048576 → IsChoice 1048576 0 1048576 (one_of (codes "budget") (matches_of icbench words)) n
budget_chosen old m words p plain local shape matches E G only r none value n is =
    let d = an_argument (args_of old) (rule_count old shape) in
    let rule = program_rule old shape 1 d in
    let id : (slice_index_or (args_of old) 1 d).id.now ≡ codes "budget" = ap (λ (r : Rule). r.id) rule in
    let own = own_at old shape 1 d (codes "budget") (omega arith) id budget_alone (λ e. absurd (omega (arith, e))) (λ e. absurd (omega (arith, e))) (λ e. absurd (omega (arith, e))) in
    subst (λ (o : Option (List ℕ)). IsChoice 1048576 0 1048576 o n) (chosen_text old m words (codes "budget") shape matches)
    (given_number old m p plain local 1 d own (codes "budget") id 0 1048576 32 (omega arith) (ap (λ (r : Rule). r.parser) rule) E G only r none value 1048576 n is (omega arith) (omega arith))
