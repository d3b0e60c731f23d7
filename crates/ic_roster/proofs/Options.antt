-- What is said of a value that may be missing.
use Rattle.std.proofs.Common.{◌≡◌, true, false, Option, Some, None, Result, Ok, Err}
use Rattle.std.specs.Prelude.{is_some, IfSome, IfNone, IfOk}

-- what holds in any case holds where there is nothing
pub if_none : {X : Type 0} (o : Option X) (P : Type 0) → P → IfNone o P
if_none None P h = h
if_none (Some x) P h = tt

-- what holds where there is nothing
pub at_none : {X P : Type 0} (o : Option X) → is_some o ≡ false → IfNone o P → P
at_none None e h = h
at_none (Some x) e h = absurd cc

-- what holds of the value where there is one
pub at_some : {X : Type 0} {P : X → Type 0} (o : Option X) → is_some o ≡ true → IfSome o P → (x : X) × P x
at_some None e h = absurd cc
at_some (Some x) e h = (x, h)

-- what follows for the value, where there is one
pub if_some : {X : Type 0} {P Q : X → Type 0} (o : Option X) → ((x : X) → P x → Q x) → IfSome o P → IfSome o Q
if_some None then h = tt
if_some (Some x) then h = then x h

-- what follows where there is nothing
pub if_none_then : {X P Q : Type 0} (o : Option X) → (P → Q) → IfNone o P → IfNone o Q
if_none_then None then h = then h
if_none_then (Some x) then h = tt

-- what follows for the value that was made
pub if_ok : {X E : Type 0} {P Q : X → Type 0} (r : Result X E) → ((x : X) → P x → Q x) → IfOk r P → IfOk r Q
if_ok (Ok x) then h = then x h
if_ok (Err e) then h = tt
