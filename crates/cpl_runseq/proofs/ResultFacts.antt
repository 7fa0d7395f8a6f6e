-- Steps of a definition that may be refused.
use Rattle.std.proofs.Common.{◌≡◌, Bool, true, false, inl, inr, Result, Ok, Err, refl}
use Rattle.std.specs.Prelude.{◌⊎◌}
use Rattle.cpl_base.specs.ResultChain.{◌>>=◌, ok_if}
use Rattle.cpl_runseq.specs.declared.fault.SeqFault.{SeqFault}
use Rattle.cpl_runseq.specs.declared.fault.SeqFault.TheVariants.{Memory}
use Rattle.cpl_runseq.specs.Causes.{IsCaused}
use Rattle.cpl_runseq.specs.EmptyLoops.{result_map}

-- what was found went through the first step
pub first_ok : {A B : Type 0} (f : A → Result B SeqFault) (r : Result A SeqFault) (y : B) → r >>= f ≡ Ok y → (x : A) × (r ≡ Ok x) × (f x ≡ Ok y)
first_ok f (Ok x) y is = (x, refl, is)
first_ok f (Err fault) y is = absurd (cc)

-- and a test that was passed
pub test_ok : {B : Type 0} (b : Bool) (fault : SeqFault) (f : Unit {0} → Result B SeqFault) (y : B) → ok_if b fault >>= f ≡ Ok y → (b ≡ true) × (f tt ≡ Ok y)
test_ok true fault f y is = (refl, is)
test_ok false fault f y is = absurd (cc)

-- a cause, as a reader promises it
pub IsCaused-sum : {A : Type 0} (given : Result A SeqFault) (fault : SeqFault) → IsCaused given fault → (fault ≡ Memory) ⊎ (given ≡ Err fault)
IsCaused-sum given Memory cause = inl refl
IsCaused-sum given fault cause = inr cause

-- ---- what is found, changed by a function

-- a step that both share, and what follows it
pub bind_known : {A B C : Type 0} (h : B → C) (o : Result A SeqFault) (f : A → Result B SeqFault) (g : A → Result C SeqFault) → ((x : A) → o ≡ Ok x → result_map h (f x) ≡ g x) → result_map h (o >>= f) ≡ o >>= g
bind_known h (Ok x) f g same = same x refl
bind_known h (Err fault) f g same = refl

-- the same, where what follows doesn't rest on the step
pub bind_map : {A B C : Type 0} (h : B → C) (o : Result A SeqFault) (f : A → Result B SeqFault) (g : A → Result C SeqFault) → ((x : A) → result_map h (f x) ≡ g x) → result_map h (o >>= f) ≡ o >>= g
bind_map h o f g same = bind_known h o f g (λ x _. same x)

-- a step whose own outcome is changed too
pub bind_mapped : {A K B C : Type 0} (k : A → K) (h : B → C) (o : Result A SeqFault) (q : Result K SeqFault) (f : A → Result B SeqFault) (g : K → Result C SeqFault) → result_map k o ≡ q → ((x : A) → result_map h (f x) ≡ g (k x)) → result_map h (o >>= f) ≡ q >>= g
bind_mapped k h (Ok x) q f g is same = rw (← is) (same x)
bind_mapped k h (Err fault) q f g is same = rw (← is) refl

-- a step that both have, and what follows it
pub bind_same : {A B C : Type 0} (h : B → C) (o q : Result A SeqFault) (f : A → Result B SeqFault) (g : A → Result C SeqFault) → o ≡ q → ((x : A) → result_map h (f x) ≡ g x) → result_map h (o >>= f) ≡ q >>= g
bind_same h (Ok x) q f g is same = rw (← is) (same x)
bind_same h (Err fault) q f g is same = rw (← is) refl
