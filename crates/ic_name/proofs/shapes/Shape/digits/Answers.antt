use Rattle.std.proofs.Common.{◌≡◌, length, sym, ◌∙◌, ap, subst, arith}
use Rattle.std.proofs.lemmas.List.{take_all}
use Rattle.ic_name.specs.NameTexts.{IsTextOf}
use Rattle.ic_name.proofs.NameReading.{shape_fits, dotted_part}
use Rattle.ic_name.proofs.NameRuns.{digits_text_injective}
use Rattle.ic_name.proofs.NameTextFacts.{length-digits_text, get_or-digits_text, digits_more}
use Rattle.ic_name.proofs.shapes.Shape.digits.Goals as goal

pub overflow_mul-dotted : goal.overflow_mul-dotted
overflow_mul-dotted c =
    let fits = shape_fits _ _ c.requires in
    omega arith

pub overflow_sub-dotted : goal.overflow_sub-dotted
overflow_sub-dotted c =
    let fits = shape_fits _ _ c.requires in
    omega arith

pub overflow_mul-generation : goal.overflow_mul-generation
overflow_mul-generation c =
    let fits = shape_fits _ _ c.requires in
    omega arith

pub overflow_add-generation : goal.overflow_add-generation
overflow_add-generation c =
    let fits = shape_fits _ _ c.requires in
    omega arith

pub bounds-dotted-generation : goal.bounds-dotted-generation
bounds-dotted-generation c =
    let behind = dotted_part c.args.self c.args.text.now c.requires in
    let count : length c.requires.name.digits ≡ c.args.self.generations = c.requires.generations in
    let long = length-digits_text c.requires.name.digits in
    rw behind (omega arith)

pub overflow_sub-dotted-in-loop-generation : goal.overflow_sub-dotted-in-loop-generation
overflow_sub-dotted-in-loop-generation c =
    let behind = dotted_part c.args.self c.args.text.now c.requires in
    let count : length c.requires.name.digits ≡ c.args.self.generations = c.requires.generations in
    let digit = get_or-digits_text c.requires.name.digits c.loop-generation.generation (omega arith) in
    rw behind (omega arith)

pub loop-generation-preserved : goal.loop-generation-preserved
loop-generation-preserved c ds is =
    let behind = dotted_part c.args.self c.args.text.now c.requires in
    let count : length c.requires.name.digits ≡ c.args.self.generations = c.requires.generations in
    let same : c.requires.name.digits ≡ ds = digits_text_injective _ _ (sym behind ∙ is) in
    let long : length c.requires.name.digits ≡ length ds = ap length same in
    c.in_ok-push.ensures.ok ∙ digits_more _ ds c.loop-generation.digits.items c.loop-generation.generation is (omega arith) (c.loop-generation.invariant ds is)

pub returns : goal.returns
returns c =
    let behind = dotted_part c.args.self c.args.text.now c.requires in
    let count : length c.requires.name.digits ≡ c.args.self.generations = c.requires.generations in
    let digits : c.loop-generation.digits.items ≡ c.requires.name.digits = c.loop-generation.invariant c.requires.name.digits behind ∙ take_all _ c.requires.name.digits (omega arith) in
    let name : c.requires.name ≡ record { start = c.args.self.start; digits = c.loop-generation.digits.items } = λ i. record { start = c.requires.start i; digits = sym digits i } in
    subst (λ n. IsTextOf n c.args.text.now) name c.requires.written
