-- What reading a text answers is settled by the text, but for want of memory.
use Rattle.std.proofs.Common.{◌≡◌, ◌↔◌, ℕ, ◌<◌, ◌≤◌, ◌⊎◌, inl, inr, length, List, refl, sym, ap, subst, arith}
use Rattle.std.specs.Prelude.{Result, Ok, Err, IsErrOf, IsOkUnless}
use Rattle.ic_name.specs.declared.faults.NameFault.{NameFault}
use Rattle.ic_name.specs.declared.faults.NameFault.TheVariants.{BadName, Deep, Memory}
use Rattle.ic_name.specs.declared.limits.TheConstants.{MAX_DEPTH}
use Rattle.ic_name.specs.declared.shapes.Shape.{Shape}
use Rattle.ic_name.specs.NameShapes.{HasShape}
use Rattle.ic_name.specs.Names.{Name, IsName}
use Rattle.ic_name.specs.NameTexts.{name_text, IsTextOf, IsNameText, IsDeepText, IsShallowText, IsBadAt, Reads}
use Rattle.ic_name.proofs.NameRuns.{one_name}
use Rattle.ic_name.proofs.NameFaults.{bad_not_named, bad_once}

-- a name within the depth is one of any depth
pub text_of_name : (n : Name) (t : List ℕ) → IsName n → t ≡ name_text n → IsTextOf n t
text_of_name n t is e = record { starts = is.starts; digit = is.digit; text = e }

-- a deep text is that of a name of some depth
deep_named : (t : List ℕ) → IsDeepText t → IsNameText t
deep_named t deep = record { name = deep.name; written = deep.written }

-- so is a shallow one
shallow_named : (t : List ℕ) → IsShallowText t → IsNameText t
shallow_named t shallow = record { name = shallow.name; written = text_of_name shallow.name t shallow.is_name shallow.text }

-- no text is both
deep_not_shallow : (t : List ℕ) → IsDeepText t → ¬ (IsShallowText t)
deep_not_shallow t deep shallow =
    let same = one_name deep.name shallow.name t deep.written (text_of_name shallow.name t shallow.is_name shallow.text) in
    let count : length deep.name.digits ≡ length shallow.name.digits = ap (λ n. length n.digits) same in
    let more = deep.deep in
    let few = shallow.is_name.shallow in
    omega arith

-- the text of a name that was read
shallow_of : (t : List ℕ) (n : Name) → IsName n × (t ≡ name_text n) → IsShallowText t
shallow_of t n reads = record { name = n; is_name = reads.0; text = reads.1 }

-- a text of a shape with too many digits is deep
pub shape_deep : (s : Shape) (t : List ℕ) → HasShape s t → MAX_DEPTH < s.generations → IsDeepText t
shape_deep s t shape more =
    let count : length shape.name.digits ≡ s.generations = shape.generations in
    record { name = shape.name; written = shape.written; deep = omega arith }

-- and one with no more digits than a name may have is that of a name
pub shape_named : (s : Shape) (t : List ℕ) (n : Name) → HasShape s t → s.generations ≤ MAX_DEPTH → IsTextOf n t → IsName n
shape_named s t n shape few is =
    let same = one_name shape.name n t shape.written is in
    let count : length shape.name.digits ≡ s.generations = shape.generations in
    let long : length shape.name.digits ≡ length n.digits = ap (λ m. length m.digits) same in
    record { starts = is.starts; digit = is.digit; shallow = omega arith }

-- so such a text is that of a name within the depth
pub shape_shallow : (s : Shape) (t : List ℕ) → HasShape s t → s.generations ≤ MAX_DEPTH → IsShallowText t
shape_shallow s t shape few = record { name = shape.name; is_name = shape_named s t shape.name shape few shape.written; text = shape.written.text }

-- each bad offset is answered, and no other
pub reads_bad : (t : List ℕ) (r : Result Name NameFault) → Reads t r → (k : ℕ) → (r ≡ Err (BadName k)) ↔ IsBadAt t k
reads_bad t (Ok n) reads k = (λ h. absurd cc, λ bad. absurd (bad_not_named t k bad (shallow_named t (shallow_of t n reads))))
reads_bad t (Err (BadName j)) reads k = (λ h. let same : j ≡ k = cc in subst (λ i. IsBadAt t i) same reads, λ bad. ap (λ i. Err (BadName i)) (bad_once t j k reads bad))
reads_bad t (Err Deep) reads k = (λ h. absurd cc, λ bad. absurd (bad_not_named t k bad (deep_named t reads)))
reads_bad t (Err Memory) reads k = (λ h. absurd cc, λ bad. absurd (bad_not_named t k bad (shallow_named t reads)))

-- each deep text is answered so, and no other
pub reads_deep : (t : List ℕ) (r : Result Name NameFault) → Reads t r → IsErrOf r Deep ↔ IsDeepText t
reads_deep t (Ok n) reads = (λ h. absurd cc, λ deep. absurd (deep_not_shallow t deep (shallow_of t n reads)))
reads_deep t (Err (BadName j)) reads = (λ h. absurd cc, λ deep. absurd (bad_not_named t j reads (deep_named t deep)))
reads_deep t (Err Deep) reads = (λ h. reads, λ deep. refl)
reads_deep t (Err Memory) reads = (λ h. absurd cc, λ deep. absurd (deep_not_shallow t deep reads))

-- the text of a name is read, or memory runs out
pub reads_named : (t : List ℕ) (r : Result Name NameFault) → Reads t r → IsOkUnless r Memory ↔ IsShallowText t
reads_named t (Ok n) reads = (λ h. shallow_of t n reads, λ shallow. tt)
reads_named t (Err (BadName j)) reads = (λ h. absurd cc, λ shallow. absurd (bad_not_named t j reads (shallow_named t shallow)))
reads_named t (Err Deep) reads = (λ h. absurd cc, λ shallow. absurd (deep_not_shallow t reads shallow))
reads_named t (Err Memory) reads = (λ h. reads, λ shallow. refl)

-- the text of a name is that of no other name
pub same_text : (m n : Name) → IsName m → IsName n → name_text m ≡ name_text n → m ≡ n
same_text m n is_m is_n e = one_name m n (name_text n) (text_of_name m (name_text n) is_m (sym e)) (text_of_name n (name_text n) is_n refl)

-- reading the text of a name gives that name, unless memory runs out
pub reads_back : (n : Name) → IsName n → (r : Result Name NameFault) → Reads (name_text n) r → (r ≡ Ok n) ⊎ (r ≡ Err Memory)
reads_back n is (Ok m) reads = inl (ap Ok (same_text m n reads.0 is (sym reads.1)))
reads_back n is (Err (BadName k)) reads = absurd (bad_not_named (name_text n) k reads (shallow_named _ (shallow_of (name_text n) n (is, refl))))
reads_back n is (Err Deep) reads = absurd (deep_not_shallow (name_text n) reads (shallow_of (name_text n) n (is, refl)))
reads_back n is (Err Memory) reads = inr refl
