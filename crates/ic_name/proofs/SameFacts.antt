-- The tests for names and ports say what they are to say.
use Rattle.std.proofs.Common.{◌⊎◌, inl, inr, ◌≡◌, ℕ, true, List, [], ◌∷◌, refl, ap, eqb, ◌⊎◌, ◌≢◌}
use Rattle.std.proofs.lemmas.Bool.{eqb-true, eq-eqb, and_from, and_parts, cases_eq}
use Rattle.ic_name.specs.Names.{Name}
use Rattle.ic_name.specs.Same.{same_digits, same_name, same_port}
use Rattle.ic_name.specs.declared.ports.Port.{Port}
use Rattle.ic_name.specs.declared.ports.Port.TheVariants as port
use Rattle.ic_name.specs.declared.ids.EventId.{EventId}
use Rattle.ic_name.specs.declared.ids.AgentId.{AgentId}
use Rattle.ic_name.specs.declared.ports.Port.TheVariants.{Of}
use Rattle.ic_name.specs.Spots.{same_event}

same_digits_true : (m n : List ℕ) → same_digits m n ≡ true → m ≡ n
same_digits_true [] [] h = refl
same_digits_true [] (j ∷ js) h = cc
same_digits_true (i ∷ is) [] h = cc
same_digits_true (i ∷ is) (j ∷ js) h =
    let a = and_parts (eqb i j) (same_digits is js) h in
    let e : i ≡ j = eqb-true i j a.0 in
    let f : is ≡ js = same_digits_true is js a.1 in
    cc

same_digits_self : (m : List ℕ) → same_digits m m ≡ true
same_digits_self [] = refl
same_digits_self (i ∷ is) = and_from (eqb i i) (same_digits is is) (eq-eqb i i refl) (same_digits_self is)

pub same_name_true : (m n : Name) → same_name m n ≡ true → m ≡ n
same_name_true m n h =
    let a = and_parts (eqb m.start n.start) (same_digits m.digits n.digits) h in
    let e : m.start ≡ n.start = eqb-true m.start n.start a.0 in
    let f : m.digits ≡ n.digits = same_digits_true m.digits n.digits a.1 in
    λ i. record { start = e i; digits = f i }

pub same_name_self : (m : Name) → same_name m m ≡ true
same_name_self m = and_from (eqb m.start m.start) (same_digits m.digits m.digits) (eq-eqb m.start m.start refl) (same_digits_self m.digits)

pub same_port_true : (p q : Port) → same_port p q ≡ true → p ≡ q
same_port_true (port.Of m i) (port.Of n j) h =
    let a = and_parts (eqb i j) (same_name m n) h in
    let e : i ≡ j = eqb-true i j a.0 in
    let f : m ≡ n = same_name_true m n a.1 in
    cc
same_port_true (port.Of m i) (port.Name j) h = cc
same_port_true (port.Name i) (port.Of n j) h = cc
same_port_true (port.Name i) (port.Name j) h = ap port.Name (eqb-true i j h)

pub same_port_self : (p : Port) → same_port p p ≡ true
same_port_self (port.Of m i) = and_from (eqb i i) (same_name m m) (eq-eqb i i refl) (same_name_self m)
same_port_self (port.Name i) = eq-eqb i i refl

-- ids that pass the test are one event's
pub same_event_true : (d e : EventId) → same_event d e ≡ true → d ≡ e
same_event_true d e h =
    let parts = and_parts _ _ h in
    let s = eqb-true d.slot e.slot parts.0 in
    let l = eqb-true d.line e.line parts.1 in
    λ u. record { slot = s u; line = l u }

-- and an event's id passes
pub same_event_self : (d : EventId) → same_event d d ≡ true
same_event_self d = and_from _ _ (eq-eqb d.slot d.slot refl) (eq-eqb d.line d.line refl)

-- two ids are one, or they are not
pub one_agent : (a b : AgentId) → (a ≡ b) ⊎ (a ≢ b)
one_agent a b = by (cases_eq a.slot b.slot) (cases_eq a.serial b.serial)
  where
    by : (a.slot ≡ b.slot) ⊎ (a.slot ≢ b.slot) → (a.serial ≡ b.serial) ⊎ (a.serial ≢ b.serial) → (a ≡ b) ⊎ (a ≢ b)
    by (inl s) (inl t) = inl (λ i. record { slot = s i; serial = t i })
    by (inl s) (inr n) = inr (λ e. n (ap (λ j. j.serial) e))
    by (inr n) t = inr (λ e. n (ap (λ j. j.slot) e))

-- the name of the agent of a port
pub port_name : {m n : Name} {i j : ℕ} → ◌≡◌ {A = Port} (Of m i) (Of n j) → m ≡ n
port_name e = cc
