-- What a session writes on one net after the other.
use Rattle.std.proofs.Common.{◌≡◌, ℕ, true, false, List, [], ◌++◌, append_assoc, sym, subst, ◌∙◌}
use Rattle.std.proofs.KnownBytes.{Appends-nil, Appends-trans}
use Rattle.std.specs.Prelude.{Option, Some, None, IfSome}
use Rattle.std.specs.Io.KnownBytes.{Appends}
use Rattle.ic_session.specs.InputLines.{TextLine, lines}
use Rattle.ic_session.specs.declared.mode.Mode.{Mode}
use Rattle.ic_session.specs.declared.net_session.NetEnd.{NetEnd}
use Rattle.ic_session.specs.declared.net_session.NetEnd.TheVariants.{Another, Over}
use Rattle.ic_session.specs.declared.session.Status.{Status}
use Rattle.ic_session.specs.Modes.{RenewsAt, renews}
use Rattle.ic_session.specs.Sessions.{IsBegun, IsBegunOver, IsLastText, IsTextOver, LeadsOn, Writes, WritesNet, beyond, once, onward, renewed, retried}

-- the text led to these lines: what is written over them comes behind it
pub record LeadsTo (m : Mode) (ls : List TextLine) (text : List ℕ) (behind : List TextLine) : Type 0 where
  pub texts : (status : Status) (rest : List ℕ) → IsTextOver m behind status rest → IsTextOver m ls status (text ++ rest)
  pub fronts : (rest : List ℕ) → IsBegunOver m behind rest → IsBegunOver m ls (text ++ rest)

-- the nets so far led to what is left of the input, where it is known
abbrev pub HaveLed : Mode → Option (List ℕ) → Option (List ℕ) → Option (List ℕ) → Option (List ℕ) → Type 0
HaveLed m None now before after = Unit {0}
HaveLed m (Some xs) None before after = ⊥
HaveLed m (Some xs) (Some ys) before after = (text : List ℕ) × LeadsTo m (lines xs) text (lines ys) × Appends before after text

-- there was none yet
pub led_none : (m : Mode) (old before : Option (List ℕ)) → HaveLed m old old before before
led_none m None before = tt
led_none m (Some xs) before = ([], record { texts = λ status rest t. t; fronts = λ rest t. t }, Appends-nil before)

-- one more
led_more : (m : Mode) (ls between behind : List TextLine) (text next : List ℕ) → LeadsTo m ls text between → LeadsOn m between next behind → LeadsTo m ls (text ++ next) behind
led_more m ls between behind text next led on = record {
  texts = λ status rest t. subst (IsTextOver m ls status) (sym (append_assoc text next rest)) (led.texts status (next ++ rest) (onward on t));
  fronts = λ rest t. subst (IsBegunOver m ls) (sym (append_assoc text next rest)) (led.fronts (next ++ rest) (beyond on t));
}

pub led_on : (m : Mode) (old now next before then after : Option (List ℕ)) (end : NetEnd) → HaveLed m old now before then → end ≡ Another → IfSome now (λ ys. WritesNet m ys end next then after)
    → HaveLed m old next before after
led_on m None now next before then after end h is w = tt
led_on m (Some xs) None next before then after end h is w = absurd h
led_on m (Some xs) (Some ys) None before then after end h is w = let net = subst (λ z. WritesNet m ys z None then after) is w in absurd net.1
led_on m (Some xs) (Some ys) (Some zs) before then after end h is w =
    let net = subst (λ z. WritesNet m ys z (Some zs) then after) is w in
    (h.0 ++ net.0, led_more m (lines xs) (lines ys) (lines zs) h.0 net.0 h.1 net.1, Appends-trans before then after h.0 net.0 h.2 net.2)

-- and the last
pub led_over : (m : Mode) (old now next before then after : Option (List ℕ)) (end : NetEnd) (status : Status) → HaveLed m old now before then → end ≡ Over status
    → IfSome now (λ ys. WritesNet m ys end next then after) → IfSome old (λ xs. Writes m xs status before after)
led_over m None now next before then after end status h is w = tt
led_over m (Some xs) None next before then after end status h is w = absurd h
led_over m (Some xs) (Some ys) next before then after end status h is w =
    let net = subst (λ z. WritesNet m ys z next then after) is w in
    (h.0 ++ net.0, h.1.texts status net.0 (once net.1), Appends-trans before then after h.0 net.0 h.2 net.2)

-- the next broke off
pub led_begun : (m : Mode) (old now before then after : Option (List ℕ)) → HaveLed m old now before then → IfSome now (λ ys. (text : List ℕ) × IsBegun m ys text × Appends then after text)
    → IfSome old (λ xs. (text : List ℕ) × IsBegun m xs text × Appends before after text)
led_begun m None now before then after h b = tt
led_begun m (Some xs) None before then after h b = absurd h
led_begun m (Some xs) (Some ys) before then after h b = (h.0 ++ b.0, h.1.fronts b.0 b.1, Appends-trans before then after h.0 b.0 h.2 b.2)

-- where a session doesn't explain itself, no line leads to another net
not_renewed : {m : Mode} {ls behind : List TextLine} → m.explains ≡ false → RenewsAt m ls behind → ⊥
not_renewed off (renews on) = let no : false ≡ true = sym off ∙ on.0 in cc

not_led : {m : Mode} {ls behind : List TextLine} {text : List ℕ} → m.explains ≡ false → m.retries ≡ false → LeadsOn m ls text behind → ⊥
not_led off once_only (renewed b a) = not_renewed off a.renewal
not_led off once_only (retried on barred names) = let no : false ≡ true = sym once_only ∙ on in cc

-- so if it goes on behind no refused one, it has one net
pub only_net : {m : Mode} {ls : List TextLine} {status : Status} {text : List ℕ} → m.explains ≡ false → m.retries ≡ false → IsTextOver m ls status text → IsLastText m ls status text
only_net off once_only (once a) = a
only_net off once_only (onward led a) = absurd (not_led off once_only led)
