-- A desk has one answer to each request, where memory isn't wanting.
use Rattle.std.proofs.Common.{◌≡◌, ◌≤◌, ℕ, List, length, refl, sym, ap, subst, arith}
use Rattle.std.specs.Global.{Vec}
use Rattle.ic_name.specs.Events.{Event, Pair}
use Rattle.ic_path.specs.Orders.{Alike}
use Rattle.ic_path.proofs.Alikes.{alike_back, alike_then, alike-length}
use Rattle.ic_theory.specs.Starts.{Start, IsProper}
use Rattle.ic_theory.specs.Sound.{IsSound}
use Rattle.ic_theory.specs.Machine as machine
use Rattle.ic_theory.proofs.Ranks.{sound-alike}
use Rattle.ic_command.specs.declared.request.Request.{Request}
use Rattle.ic_command.specs.declared.request.Request.TheVariants.{Absorb}
use Rattle.ic_desk.specs.declared.desk.TheConstants.{MAX_MARKS}
use Rattle.ic_desk.specs.Desks.{Noted, State, NoneNoted, IsNoted, Puts, replaced, added}
use Rattle.ic_desk.specs.Replies.{RepliesToRequest, of_bench, marked, too_many, mark_memory, no_mark, back_history_full, back, back_memory, absorbed, never_active, absorb_deep, absorb_full, absorb_history_full, absorb_memory, marked_text, back_text}
use Rattle.ic_session.specs.Wants.{Wants}
use Rattle.ic_session.proofs.AbsorbedOnce.{reached_absorbed, reached_refused, reached_taken_back}
use Rattle.ic_session.proofs.DeskStates.{IsInUse, AreSameDesks}
use Rattle.ic_session.proofs.OneAbsorbing.{told, told_once}
use Rattle.ic_session.proofs.OneAnswer.{one_answer}
use Rattle.ic_session.proofs.Reaching.{reached_on}
use Rattle.ic_session.proofs.SameMarks.{turned, one_mark, none_like, put_apart, put_all, same_put}
use Rattle.ic_session.proofs.SameStates.{reached_kept}
use Rattle.ic_session.proofs.WantingParts.{part_way_wants}
use Rattle.ic_session.proofs.WantingTexts.{refusal_wants}
use Rattle.ic_session.proofs.WaysBack.{reached_back, reached_part_way, one_way, fits}
use Rattle.ic_theory.proofs.SameStates.{same_back, same_events}

module _ {s : Start} (ok : IsProper s) where
  -- what stands on a reached bench is sound, in any order
  marked_sound : {st : State} {es : List Event} → IsInUse s st → Alike (machine.events st.bench) es → IsSound s es
  marked_sound used alike = sound-alike s alike (reached_kept s ok used.bench).sound

  -- each answer leaves a desk that is in use
  pub in_use_on : {st next : State} {r : Request} {text : List ℕ}
      → IsInUse s st → RepliesToRequest s st r text next → IsInUse s next
  in_use_on {st} used (of_bench {c = c} {text = text} {next = next} a) =
      record { bench = reached_on s st.bench next c text used.bench a; sound = used.sound; apart = used.apart }
  in_use_on used (marked alike p) =
      let sound = put_all used.sound (marked_sound used alike) p in
      record { bench = used.bench; sound = sound; apart = put_apart used.apart p }
  in_use_on used (too_many n m) = used
  in_use_on used mark_memory = used
  in_use_on used (no_mark n) = used
  in_use_on used (back_history_full n o m d) = used
  in_use_on used (back n g) =
      record { bench = reached_back s used.bench g; sound = used.sound; apart = used.apart }
  in_use_on used (back_memory n g) =
      record { bench = reached_part_way s used.bench g; sound = used.sound; apart = used.apart }
  in_use_on used (absorbed a all) =
      record { bench = reached_absorbed s _ used.bench a.fired; sound = used.sound; apart = used.apart }
  in_use_on used (never_active a n l t) =
      record { bench = reached_taken_back s (reached_absorbed s _ used.bench a.fired) t; sound = used.sound; apart = used.apart }
  in_use_on used (absorb_deep a r t) =
      record { bench = reached_taken_back s (reached_refused s _ (reached_absorbed s _ used.bench a.fired) r) t; sound = used.sound; apart = used.apart }
  in_use_on used (absorb_full a r t) =
      record { bench = reached_taken_back s (reached_refused s _ (reached_absorbed s _ used.bench a.fired) r) t; sound = used.sound; apart = used.apart }
  in_use_on used (absorb_history_full n) = used
  in_use_on used (absorb_memory a t) =
      record { bench = reached_taken_back s (reached_absorbed s _ used.bench a.fired) t; sound = used.sound; apart = used.apart }

-- equal texts, and the same desks
pub record AreOneAnswer (x y : List ℕ) (next after : State) : Type 0 where
  pub texts : x ≡ y
  pub left : AreSameDesks next after

module _ {s : Start} (ok : IsProper s) {st tt : State} (used : IsInUse s st) (other : IsInUse s tt)
    (same : AreSameDesks st tt) where
  -- a refusal that changes nothing
  refused : (text : List ℕ) → AreOneAnswer text text st tt
  refused text = record { texts = refl; left = same }

  -- a name is of a mark on both sides, or on none
  not_both : {name : List ℕ} {x : Noted} → NoneNoted st.marks name → IsNoted tt.marks name x → ⊥
  not_both {x = x} none n = none_like same.marks none x n.there n.named

  nor_so : {name : List ℕ} {x : Noted} → IsNoted st.marks name x → NoneNoted tt.marks name → ⊥
  nor_so {x = x} n none = none_like (turned same.marks) none x n.there n.named

  -- the same events are marked
  one_marked : {name : List ℕ} {es fs : List Event} {ms ns : List Noted}
      → Alike (machine.events st.bench) es → Alike (machine.events tt.bench) fs
      → Puts st.marks (record { name = name; events = es }) ms → Puts tt.marks (record { name = name; events = fs }) ns
      → AreOneAnswer (marked_text name (length es)) (marked_text name (length fs))
      (record st { marks = ms }) (record tt { marks = ns })
  one_marked {name} {es} {fs} a b p q = record {
    texts = ap (marked_text name) (alike-length alike);
    left = record { bench = same.bench; marks = same_put used.apart other.apart same.marks refl alike p q };
  }
    where
      alike : Alike es fs
      alike = alike_then (alike_back a) (alike_then (same_events same.bench) b)

  -- a mark can't be put in where there are too many
  no_room : {x : Noted} {ns : List Noted} → NoneNoted st.marks x.name → MAX_MARKS ≤ length st.marks
      → Puts tt.marks x ns → ⊥
  no_room none many (replaced {y = y} k e) = not_both none (record { there = (_, k); named = e })
  no_room none many (added lack few) = let length = same.marks.many in omega (arith, many, few, length)

  nor_there : {x : Noted} {ms : List Noted} → Puts st.marks x ms → NoneNoted tt.marks x.name
      → MAX_MARKS ≤ length tt.marks → ⊥
  nor_there (replaced {y = y} k e) none many = nor_so (record { there = (_, k); named = e }) none
  nor_there (added lack few) none many = let length = same.marks.many in omega (arith, many, few, length)

  -- a list of the same events is absorbed in one way
  pub one_absorbing : {x y : List ℕ} {next after : State} (xs ys : Vec Pair) → xs.items ≡ ys.items → RepliesToRequest s st (Absorb xs) x next → RepliesToRequest s tt (Absorb ys) y after
      → ¬ (Wants x) → ¬ (Wants y) → AreOneAnswer x y next after
  one_absorbing {after = after} xs ys e a b n m =
      let p = told xs.items refl a n in
      let q = told xs.items (sym e) b m in
      let one = told_once s ok xs.items used.bench other.bench same.bench p.tells q.tells in
      record {
        texts = one.0;
        left = subst (λ d. AreSameDesks d after) (sym p.left) (subst (λ d. AreSameDesks (record st { bench = p.bench }) d) (sym q.left) (record { bench = one.1; marks = same.marks }));
      }

  -- the same request has one answer
  pub one_reply : {x y : List ℕ} {next after : State} (r : Request) → RepliesToRequest s st r x next → RepliesToRequest s tt r y after
      → ¬ (Wants x) → ¬ (Wants y) → AreOneAnswer x y next after
  one_reply (Absorb names) a b n m = one_absorbing names names refl a b n m
  one_reply {x} {y} r (of_bench {c = c} {next = next} a) (of_bench {next = after} b) n m =
      let one = one_answer s st.bench tt.bench next after c x y ok used.bench other.bench same.bench a b n m in
      record { texts = one.0; left = record { bench = one.1; marks = same.marks } }
  one_reply r mark_memory b n m = absurd (n refusal_wants)
  one_reply r a mark_memory n m = absurd (m refusal_wants)
  one_reply r (back_memory {undone = u} {fired = f} i g) b n m = absurd (n (part_way_wants u f))
  one_reply r a (back_memory {undone = u} {fired = f} i g) n m = absurd (m (part_way_wants u f))
  one_reply r (marked a p) (marked b q) n m = one_marked a b p q
  one_reply r (marked a p) (too_many none many) n m = absurd (nor_there p none many)
  one_reply r (too_many none many) (marked b q) n m = absurd (no_room none many q)
  one_reply r (too_many none many) (too_many lack much) n m = refused _
  one_reply r (no_mark none) (no_mark lack) n m = refused _
  one_reply r (no_mark none) (back_history_full i o g d) n m = absurd (not_both none i)
  one_reply r (no_mark none) (back i g) n m = absurd (not_both none i)
  one_reply r (back_history_full i o g d) (no_mark none) n m = absurd (nor_so i none)
  one_reply r (back_history_full i o g d) (back_history_full j p h e) n m = refused _
  one_reply r (back_history_full {x = x} {gone = gone} {came = came} i o g d) (back j h) n m =
      let alike = one_mark same.marks other.apart i j in
      absurd (fits s ok used.bench other.bench same.bench (used.sound x i.there) alike gone came o g d h)
  one_reply r (back {x = x} i g) (no_mark none) n m = absurd (nor_so i none)
  one_reply r (back {x = x} i g) (back_history_full {x = y} {gone = gone} {came = came} j o h d) n m =
      let alike = one_mark (turned same.marks) used.apart j i in
      absurd (fits s ok other.bench used.bench (same_back same.bench) (other.sound y j.there) alike gone came o h d g)
  one_reply r (back {name = name} {x = x} i g) (back j h) n m =
      let alike = one_mark same.marks other.apart i j in
      let way = one_way s ok used.bench other.bench same.bench (used.sound x i.there) alike g h in
      record {
        texts = λ i. back_text name (way.undone i) (way.fired i);
        left = record { bench = way.left; marks = same.marks };
      }
