-- Steps of a definition that may be refused, and of one that may have no answer.
use Rattle.std.proofs.Common.{◌≡◌, Bool, true, false, if◌then◌else◌, Option, Some, None, IfSome, option_map, Result, Ok, Err, IfOk, refl, subst}
use Rattle.std.specs.Prelude.{option_and_then}
use Rattle.std.specs.Option.{ForSome, ok_or}
use Rattle.cpl_base.specs.ResultChain.{◌>>=◌, ok_if}

-- ---- a step that may be refused

-- what holds behind a step, whatever it finds
pub bind-IfOk : {A B F : Type 0} (P : B → Type 0) (o : Result A F) (f : A → Result B F) → ((x : A) → o ≡ Ok x → IfOk (f x) P) → IfOk (o >>= f) P
bind-IfOk P (Ok x) f holds = holds x refl
bind-IfOk P (Err fault) f holds = tt

-- and behind one whose outcome has a property
pub bind-fact : {A B F : Type 0} (P : B → Type 0) (Q : A → Type 0) (o : Result A F) (f : A → Result B F) → IfOk o Q → ((x : A) → Q x → IfOk (f x) P) → IfOk (o >>= f) P
bind-fact P Q (Ok x) f here holds = holds x here
bind-fact P Q (Err fault) f here holds = tt

-- and behind a test that was passed
pub test-IfOk : {B F : Type 0} (P : B → Type 0) (b : Bool) (fault : F) (f : Unit {0} → Result B F) → (b ≡ true → IfOk (f tt) P) → IfOk (ok_if b fault >>= f) P
test-IfOk P true fault f holds = holds refl
test-IfOk P false fault f holds = tt

-- and behind an answer that was found
pub some-IfOk : {A B F : Type 0} (P : B → Type 0) (o : Option A) (fault : F) (f : A → Result B F) → ((x : A) → o ≡ Some x → IfOk (f x) P) → IfOk (ok_or o fault >>= f) P
some-IfOk P (Some x) fault f holds = holds x refl
some-IfOk P None fault f holds = tt

-- an answer that has a property, or a fault
pub ok_or-IfOk : {A F : Type 0} (P : A → Type 0) (o : Option A) (fault : F) → IfSome o P → IfOk (ok_or o fault) P
ok_or-IfOk P (Some x) fault holds = holds
ok_or-IfOk P None fault holds = tt

-- what holds of a value that was found
pub ok-fact : {A F : Type 0} (P : A → Type 0) (o : Result A F) (x : A) → IfOk o P → o ≡ Ok x → P x
ok-fact P o x holds is = let Q : Result _ _ → Type 0 = λ r. IfOk r P in subst Q is holds

-- one of two results
pub if-IfOk : {A F : Type 0} (P : A → Type 0) (b : Bool) (x y : Result A F) → IfOk x P → IfOk y P → IfOk (if b then x else y) P
if-IfOk P true x y first second = first
if-IfOk P false x y first second = second

-- one property follows from another
pub map-IfOk : {A F : Type 0} (P Q : A → Type 0) (o : Result A F) → ((x : A) → P x → Q x) → IfOk o P → IfOk o Q
map-IfOk P Q (Ok x) follows holds = follows x holds
map-IfOk P Q (Err fault) follows holds = tt

-- a value that is given only where a test holds
pub cond-IfOk : {A F : Type 0} (P : A → Type 0) (b : Bool) (x : A) (fault : F) → (b ≡ true → P x) → IfOk (if b then Ok x else Err fault) P
cond-IfOk P true x fault holds = holds refl
cond-IfOk P false x fault holds = tt

-- ---- a step that may have no answer

-- what holds behind a step, whatever it finds
pub bind-IfSome : {A B : Type 0} (P : B → Type 0) (o : Option A) (f : A → Option B) → ((x : A) → o ≡ Some x → IfSome (f x) P) → IfSome (option_and_then f o) P
bind-IfSome P (Some x) f holds = holds x refl
bind-IfSome P None f holds = tt

-- and behind one whose answer has a property
pub bind-some_fact : {A B : Type 0} (P : B → Type 0) (Q : A → Type 0) (o : Option A) (f : A → Option B) → IfSome o Q → ((x : A) → Q x → IfSome (f x) P) → IfSome (option_and_then f o) P
bind-some_fact P Q (Some x) f here holds = holds x here
bind-some_fact P Q None f here holds = tt

-- a function of an answer that has a property
pub map-some_fact : {A B : Type 0} (P : B → Type 0) (Q : A → Type 0) (o : Option A) (f : A → B) → IfSome o Q → ((x : A) → Q x → P (f x)) → IfSome (option_map f o) P
map-some_fact P Q (Some x) f here holds = holds x here
map-some_fact P Q None f here holds = tt

-- one of two answers, by what the test says
pub if-IfSome : {A : Type 0} (P : A → Type 0) (b : Bool) (x y : Option A) → (b ≡ true → IfSome x P) → (b ≡ false → IfSome y P) → IfSome (if b then x else y) P
if-IfSome P true x y first second = first refl
if-IfSome P false x y first second = second refl

-- what holds of an answer that was found
pub some-fact : {A : Type 0} (P : A → Type 0) (o : Option A) (x : A) → IfSome o P → o ≡ Some x → P x
some-fact P o x holds is = let Q : Option _ → Type 0 = λ r. IfSome r P in subst Q is holds

-- one answer that has a property
pub some-ForSome : {A : Type 0} (P : A → Type 0) (x : A) → P x → ForSome (Some x) P
some-ForSome P x holds y is = let same : x ≡ y = cc in subst P same holds

-- none has any
pub none-ForSome : {A : Type 0} (P : A → Type 0) → ForSome None P
none-ForSome P y is = absurd (cc)
