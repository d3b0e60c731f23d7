use Rattle.std.proofs.Common.{◌≡◌, ℕ, ◌+◌, List, Option, Some, None, arith, sym, ◌∙◌, ap, get_or, refl, length}
use Rattle.std.specs.Prelude.{unwrap_or}
use Rattle.std.proofs.Math.ListN.{set}
use Rattle.ic_text.specs.declared.seen.Seen.{Seen}
use Rattle.ic_text.specs.Names.{Entry, place, times, enter}
use Rattle.ic_text.specs.Table.{names_of}
use Rattle.ic_text.proofs.Table.{is_at, is_new, place_within, next_number, length_names}
use Rattle.ic_text.proofs.NameSlots.{looks, finds_again, finds_new, held_within}
use Rattle.ic_text.proofs.names.Names.enter.Goals as goal

pub index_mut-name-requires : goal.index_mut-name-requires
index_mut-name-requires c =
    let h : place c.args.text.now (names_of c.self.inside.seen.items) ≡ Some c.in-Some.number = looks _ _ _ _ _ _ _ _ _ c.self.invariant c.deref.ensures.value c.room.ensures c.slot_for-slot.ensures.slot c.get.ensures c.look_up.ensures ∙ c.in-Some.is in
    let m = is_at c.args.text.now c.self.inside.seen.items c.in-Some.number h in
    omega (arith, m.within, c.self.inside.seen.ok.0)

pub overflow_add-name : goal.overflow_add-name
overflow_add-name c =
    let h : place c.args.text.now (names_of c.self.inside.seen.items) ≡ Some c.in-Some.number = looks _ _ _ _ _ _ _ _ _ c.self.invariant c.deref.ensures.value c.room.ensures c.slot_for-slot.ensures.slot c.get.ensures c.look_up.ensures ∙ c.in-Some.is in
    let k = (is_at c.args.text.now c.self.inside.seen.items _ h).count c.index_mut-name.result.now in
    let e : c.index_mut-name.result.now.times ≡ times c.args.text.now c.args.self.now = cc (k, c.index_mut-name.ensures.value, c.self.view_is) in
    omega (arith, e, c.requires.twice)

pub invariant_of-self : goal.invariant_of-self
invariant_of-self c =
    let h : place c.args.text.now (names_of c.self.inside.seen.items) ≡ Some c.in-Some.number = looks _ _ _ _ _ _ _ _ _ c.self.invariant c.deref.ensures.value c.room.ensures c.slot_for-slot.ensures.slot c.get.ensures c.look_up.ensures ∙ c.in-Some.is in
    let r = c.index_mut-name.result.now in
    let m = is_at c.args.text.now c.self.inside.seen.items _ h in
    let e : get_or c.self.inside.seen.items c.in-Some.number r ≡ r = sym c.index_mut-name.ensures.value in
    let f = ap (λ (n : Seen). names_of (set c.self.inside.seen.items c.in-Some.number (record n { times = n.times + 1 }))) e in
    rw (sym (m.more 0 r ∙ f)) (finds_again c.args.text.now 0 c.in-Some.number _ _ _ h c.self.invariant)

pub returns-in-Some-clause-number : goal.returns-in-Some-clause-number
returns-in-Some-clause-number c =
    let h : place c.args.text.now c.args.self.now ≡ Some c.in-Some.number = ap (λ (ns : List Entry). place c.args.text.now ns) (sym c.self.view_is) ∙ looks _ _ _ _ _ _ _ _ _ c.self.invariant c.deref.ensures.value c.room.ensures c.slot_for-slot.ensures.slot c.get.ensures c.look_up.ensures ∙ c.in-Some.is in
    ap (λ (p : Option ℕ). unwrap_or p (length c.args.self.now)) (sym h)

pub returns-in-Some-clause-within : goal.returns-in-Some-clause-within
returns-in-Some-clause-within c =
    let h : place c.args.text.now c.args.self.now ≡ Some c.in-Some.number = ap (λ (ns : List Entry). place c.args.text.now ns) (sym c.self.view_is) ∙ looks _ _ _ _ _ _ _ _ _ c.self.invariant c.deref.ensures.value c.room.ensures c.slot_for-slot.ensures.slot c.get.ensures c.look_up.ensures ∙ c.in-Some.is in
    omega (arith, place_within c.args.text.now c.args.self.now c.in-Some.number h)

pub returns-in-Some-clause-before : goal.returns-in-Some-clause-before
returns-in-Some-clause-before c =
    let h : place c.args.text.now (names_of c.self.inside.seen.items) ≡ Some c.in-Some.number = looks _ _ _ _ _ _ _ _ _ c.self.invariant c.deref.ensures.value c.room.ensures c.slot_for-slot.ensures.slot c.get.ensures c.look_up.ensures ∙ c.in-Some.is in
    let k = (is_at c.args.text.now c.self.inside.seen.items _ h).count c.index_mut-name.result.now in
    cc (k, c.index_mut-name.ensures.value, c.self.view_is)

pub returns-in-Some-clause-entered : goal.returns-in-Some-clause-entered
returns-in-Some-clause-entered c =
    let h : place c.args.text.now (names_of c.self.inside.seen.items) ≡ Some c.in-Some.number = looks _ _ _ _ _ _ _ _ _ c.self.invariant c.deref.ensures.value c.room.ensures c.slot_for-slot.ensures.slot c.get.ensures c.look_up.ensures ∙ c.in-Some.is in
    let r = c.index_mut-name.result.now in
    let m = is_at c.args.text.now c.self.inside.seen.items _ h in
    let e : get_or c.self.inside.seen.items c.in-Some.number r ≡ r = sym c.index_mut-name.ensures.value in
    let f = ap (λ (n : Seen). names_of (set c.self.inside.seen.items c.in-Some.number (record n { times = n.times + 1 }))) e in
    sym (ap (λ (ns : List Entry). enter c.args.text.now c.args.first ns) (sym c.self.view_is) ∙ m.more c.args.first r ∙ f)

pub invariant_of-self-in-Ok : goal.invariant_of-self-in-Ok
invariant_of-self-in-Ok c =
    let h : place c.args.text.now (names_of c.self.inside.seen.items) ≡ None = looks _ _ _ _ _ _ _ _ _ c.self.invariant c.deref.ensures.value c.room.ensures c.slot_for-slot.ensures.slot c.get.ensures c.look_up.ensures ∙ c.in-None.is in
    let made : Seen = record { text = c.args.text; first = c.args.first; times = 1 } in
    let len : c.len-number.result ≡ length c.self.inside.seen.items = omega (arith, c.len-number.ensures, c.self.inside.seen.ok.0) in
    rw c.in_ok-push-in-None.ensures.items (finds_new c.args.text.now c.args.first c.self.inside.seen.items made _ _ _ _ _ _ _ h refl c.self.invariant c.room.ensures c.slot_for-slot.ensures.slot len c.in-Ok.ensures.kept)

pub look_up-requires : goal.look_up-requires
look_up-requires c = rw (c.get.ensures, c.deref.ensures.value) (held_within _ _ _ c.slot_for-slot.result c.self.invariant)

pub returns-in-Ok-clause-number : goal.returns-in-Ok-clause-number
returns-in-Ok-clause-number c =
    let h : place c.args.text.now c.args.self.now ≡ None = ap (λ (ns : List Entry). place c.args.text.now ns) (sym c.self.view_is) ∙ looks _ _ _ _ _ _ _ _ _ c.self.invariant c.deref.ensures.value c.room.ensures c.slot_for-slot.ensures.slot c.get.ensures c.look_up.ensures ∙ c.in-None.is in
    omega (arith, next_number c.args.text.now c.args.self.now h, c.len-number.ensures, c.self.inside.seen.ok.0, length_names c.self.inside.seen.items, ap length c.self.view_is)

pub returns-in-Ok-clause-within : goal.returns-in-Ok-clause-within
returns-in-Ok-clause-within c =
    omega (arith, c.len-number.ensures, c.self.inside.seen.ok.0, length_names c.self.inside.seen.items, ap length c.self.view_is)

pub returns-in-Ok-clause-before : goal.returns-in-Ok-clause-before
returns-in-Ok-clause-before c =
    let h : place c.args.text.now (names_of c.self.inside.seen.items) ≡ None = looks _ _ _ _ _ _ _ _ _ c.self.invariant c.deref.ensures.value c.room.ensures c.slot_for-slot.ensures.slot c.get.ensures c.look_up.ensures ∙ c.in-None.is in
    let m = is_new c.args.text.now c.self.inside.seen.items h in
    cc (m.count, c.self.view_is)

pub returns-in-Ok-clause-entered : goal.returns-in-Ok-clause-entered
returns-in-Ok-clause-entered c =
    let h : place c.args.text.now (names_of c.self.inside.seen.items) ≡ None = looks _ _ _ _ _ _ _ _ _ c.self.invariant c.deref.ensures.value c.room.ensures c.slot_for-slot.ensures.slot c.get.ensures c.look_up.ensures ∙ c.in-None.is in
    let m = is_new c.args.text.now c.self.inside.seen.items h in
    let made : Seen = record { text = c.args.text; first = c.args.first; times = 1 } in
    let k = m.more c.args.first made refl in
    let i = ap names_of c.in_ok-push-in-None.ensures.items in
    i ∙ sym k ∙ ap (λ (ns : List Entry). enter c.args.text.now c.args.first ns) c.self.view_is
