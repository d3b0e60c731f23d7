use Rattle.std.proofs.Common.{◌≡◌, ℕ, ◌<◌, List, length, map, get_or, sym, ap, arith, ◌∙◌}
use Rattle.std.proofs.lemmas.List.{get_or-map, length-map}
use Rattle.ic_link.proofs.InPlace.{in_at}
use Rattle.ic_trace.specs.declared.known.Known.{Known}
use Rattle.ic_trace.specs.declared.lists.Letter.{Letter}
use Rattle.ic_trace.specs.declared.reading.Step.{Step}
use Rattle.ic_trace.specs.declared.reading.Step.TheVariants.{Fire}
use Rattle.ic_trace.specs.Letters.{named}
use Rattle.ic_trace.specs.Readings.{letter_in, letters_in}
use Rattle.ic_trace.proofs.checking.are_named.Goals as goal

-- the name of the letter at a place
name_at : (ks : List Known) (xs : List Step) (ys : List Letter) (i : ℕ) (d : Step) (e : Letter) → i < length xs → map named (letters_in ks xs) ≡ ys → named (letter_in ks (get_or xs i d)) ≡ get_or ys i e
name_at ks xs ys i d e h q =
    let n = length-map xs (letter_in ks) in
    sym (get_or-map named (letters_in ks xs) i (letter_in ks d) e (omega arith) ∙ ap named (get_or-map (letter_in ks) xs i d (letter_in ks d) h)) ∙ ap (λ zs. get_or zs i e) q

pub is_named-requires : goal.is_named-requires
is_named-requires c = c.requires _ (in_at c.args.steps.now c.loop-number.number (Fire 0) c.loop-number-test.true)

pub returns-then-not-is_named : goal.returns-then-not-is_named
returns-then-not-is_named c = (
  λ t. absurd cc,
  λ q. let n = c.if-not-is_named.ensures.1 (name_at c.args.known.now c.args.steps.now c.args.letters.now c.loop-number.number (Fire 0) c.index-letters-number.result c.loop-number-test.true q ∙ sym c.index-letters-number.is) in absurd cc,
)
