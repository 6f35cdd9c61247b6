-- That what is read from a call lies within it, and that numbers read from a call of bytes fit their places. Assumes nothing.
use Rattle.std.specs.Prelude.{Some, None}
use mathlib.Core.Path.{◌≡◌, subst}
use mathlib.Core.Bool.{Bool, true, false, cond}
use mathlib.Core.List.{List}
use Prim.Native.Nat.{ℕ, ◌+◌, ◌^◌, ◌<◌}
use lib.Dec.{eqb, leb}
use lib.ListN.{length}
use Rattle.kinds.specs.Numbers.{most_handle_bytes}
use Rattle.kinds.specs.Reading.{Read, got}
use Rattle.kinds.specs.declared.call.Part.{Part}
use Rattle.kinds.specs.declared.call.NameIn.{NameIn}
use Rattle.kinds.specs.declared.call.SetTime.{SetTime}
use Rattle.kinds.specs.declared.call.SetTime.TheVariants as SetTime
use Rattle.kinds.specs.declared.call.Settable.{Settable}
use Rattle.kinds.specs.declared.call.How.{How}
use Rattle.kinds.specs.declared.call.How.TheVariants as How
use Rattle.kinds.specs.declared.call.Arguments.{Arguments}
use Rattle.kinds.specs.declared.call.Arguments.TheVariants as Call
use Rattle.spec.specs.Arguments.{handle, unbounded, name_in, time, set_number, set_size, set_time, settable, guard, how, Form, none, handle_then, name_then}
use Rattle.spec.specs.Arguments.{unread, form, formed, whole, arguments}
use Rattle.spec.specs.Bytes.{be_at}
use Rattle.spec.specs.Xdr.{Reader, ◌>>=◌, done, number, word, long, flag, choice, end, no_maximum}
use Rattle.laws.proofs.Arguments.{PartWithin, NameWithin, Within, by_procedure}
use Rattle.laws.proofs.Range.{Below, be_below}
use Rattle.laws.proofs.Records.{FitsTime}
use Rattle.laws.proofs.SetAttributes.{FitsNumber, FitsSetTime, FitsSettable}
use Rattle.laws.proofs.Xdr.{same_value, bind_got, only_if_got, opaque_within}

-- whatever a reader gives for a call of bytes is P
abbrev pub Gives : {A : Type 0} → (A → Type 0) → Reader A → Type 0
Gives {A} P r = (call : List ℕ) → Below 256 call → (at : ℕ) (a : A) (next : ℕ) → r call at ≡ got a next → P a

module _ {A B : Type 0} (P : A → Type 0) (Q : B → Type 0) where
  gives_then : (r : Reader A) (k : A → Reader B) → Gives P r → ((a : A) → P a → Gives Q (k a)) → Gives Q (r >>= k)
  gives_then r k f g call b at x next e =
      bind_got (r call at) (λ a n. k a call n) x next e (λ a n u w. g a (f call b at a n u) call b n x next w)

gives_done : {A : Type 0} (P : A → Type 0) (a : A) → P a → Gives P (done a)
gives_done P a h call b at x next e = subst P (same_value a x at next e) h

gives_any : {A : Type 0} (r : Reader A) → Gives (λ (a : A). Unit {0}) r
gives_any r call b at x next e = tt

gives_cond : {A : Type 0} (P : A → Type 0) (t : Bool) (r q : Reader A) → Gives P r → Gives P q → Gives P (cond t r q)
gives_cond P true r q f g = f
gives_cond P false r q f g = g

-- ---- fields
word_fits : Gives (λ (n : ℕ). n < 2 ^ 32) word
unfolding word number
word_fits call b at n next e =
    only_if_got (leb (at + 4) (length call)) at (got (be_at call at 4) (at + 4)) n next e
    (λ _ u. subst (λ (m : ℕ). m < 2 ^ 32) (same_value (be_at call at 4) n (at + 4) next u) (be_below call at 4 b))

long_fits : Gives (λ (n : ℕ). n < 2 ^ 64) long
unfolding long number
long_fits call b at n next e =
    only_if_got (leb (at + 8) (length call)) at (got (be_at call at 8) (at + 8)) n next e
    (λ _ u. subst (λ (m : ℕ). m < 2 ^ 64) (same_value (be_at call at 8) n (at + 8) next u) (be_below call at 8 b))

time_fits : Gives FitsTime time
unfolding time
time_fits =
    gives_then (λ (n : ℕ). n < 2 ^ 32) FitsTime word
    (λ seconds. word >>= (λ nanoseconds. done (record { seconds = seconds; nanoseconds = nanoseconds }))) word_fits (λ x f.
    gives_then (λ (n : ℕ). n < 2 ^ 32) FitsTime word (λ nanoseconds. done (record { seconds = x; nanoseconds = nanoseconds })) word_fits (λ y g.
    gives_done FitsTime (record { seconds = x; nanoseconds = y }) (record { seconds = f; nanoseconds = g })))

set_number_fits : Gives FitsNumber set_number
unfolding set_number
set_number_fits =
    gives_then (λ (b : Bool). Unit {0}) FitsNumber flag (λ given. cond given (word >>= (λ n. done (Some n))) (done None))
    (gives_any flag) (λ given _.
    gives_cond FitsNumber given (word >>= (λ n. done (Some n))) (done None)
    (gives_then (λ (n : ℕ). n < 2 ^ 32) FitsNumber word (λ n. done (Some n)) word_fits (λ n f. gives_done FitsNumber (Some n) f))
    (gives_done FitsNumber None tt))

set_time_fits : Gives FitsSetTime set_time
unfolding set_time
set_time_fits =
    let client : Reader SetTime = time >>= (λ t. done (SetTime.ToClient t)) in
    gives_then (λ (n : ℕ). Unit {0}) FitsSetTime (choice 2) (λ n. cond (eqb n 0) (done SetTime.Keep) (cond (eqb n 1) (done SetTime.ToServer) client))
    (gives_any (choice 2)) (λ n _.
    gives_cond FitsSetTime (eqb n 0) (done SetTime.Keep) (cond (eqb n 1) (done SetTime.ToServer) client)
    (gives_done FitsSetTime SetTime.Keep tt)
    (gives_cond FitsSetTime (eqb n 1) (done SetTime.ToServer) client (gives_done FitsSetTime SetTime.ToServer tt)
    (gives_then FitsTime FitsSetTime time (λ t. done (SetTime.ToClient t)) time_fits (λ t f. gives_done FitsSetTime (SetTime.ToClient t) f))))

-- sattr3
pub settable_fits : Gives FitsSettable settable
unfolding settable
settable_fits call b at x next e =
    bind_got (set_number call at) _ x next e (λ mode n₁ e₁ f₁.
    bind_got (set_number call n₁) _ x next f₁ (λ uid n₂ e₂ f₂.
    bind_got (set_number call n₂) _ x next f₂ (λ gid n₃ e₃ f₃.
    bind_got (set_size call n₃) _ x next f₃ (λ size n₄ e₄ f₄.
    bind_got (set_time call n₄) _ x next f₄ (λ atime n₅ e₅ f₅.
    bind_got (set_time call n₅) _ x next f₅ (λ mtime n₆ e₆ f₆.
    subst FitsSettable (same_value (record { mode = mode; uid = uid; gid = gid; size = size; atime = atime; mtime = mtime }) x n₆ next f₆)
    (record {
      mode = set_number_fits call b at mode n₁ e₁;
      uid = set_number_fits call b n₁ uid n₂ e₂;
      gid = set_number_fits call b n₂ gid n₃ e₃;
      atime = set_time_fits call b n₄ atime n₅ e₅;
      mtime = set_time_fits call b n₅ mtime n₆ e₆;
    })))))))

-- ---- createhow3
abbrev pub FitsHow : How → Type 0
FitsHow (How.Unchecked a) = FitsSettable a
FitsHow (How.Guarded a) = FitsSettable a
FitsHow (How.Exclusive verifier) = verifier < 2 ^ 64

manner_fits : (b : Bool) (a : Settable) → FitsSettable a → FitsHow (cond b (How.Unchecked a) (How.Guarded a))
manner_fits true a f = f
manner_fits false a f = f

how_fits : Gives FitsHow how
unfolding how
how_fits =
    let attributed : ℕ → Reader How = λ mode. settable >>= (λ attributes. done (cond (eqb mode 0) (How.Unchecked attributes) (How.Guarded attributes))) in
    let exclusive : Reader How = long >>= (λ verifier. done (How.Exclusive verifier)) in
    gives_then (λ (n : ℕ). Unit {0}) FitsHow (choice 2) (λ mode. cond (eqb mode 2) exclusive (attributed mode)) (gives_any (choice 2)) (λ mode _.
    gives_cond FitsHow (eqb mode 2) exclusive (attributed mode)
    (gives_then (λ (n : ℕ). n < 2 ^ 64) FitsHow long (λ verifier. done (How.Exclusive verifier)) long_fits
    (λ v f. gives_done FitsHow (How.Exclusive v) f))
    (gives_then FitsSettable FitsHow settable (λ a. done (cond (eqb mode 0) (How.Unchecked a) (How.Guarded a))) settable_fits (λ a f.
    gives_done FitsHow (cond (eqb mode 0) (How.Unchecked a) (How.Guarded a)) (manner_fits (eqb mode 0) a f))))

-- ---- arguments: those with attributes to set
abbrev pub FitsArguments : Arguments → Type 0
FitsArguments Call.Null = Unit {0}
FitsArguments (Call.Getattr h) = Unit {0}
FitsArguments (Call.Setattr h a g) = FitsSettable a
FitsArguments (Call.Lookup p) = Unit {0}
FitsArguments (Call.Access h bits) = Unit {0}
FitsArguments (Call.Read h offset count) = Unit {0}
FitsArguments (Call.Write h offset count bytes) = Unit {0}
FitsArguments (Call.Create p manner) = FitsHow manner
FitsArguments (Call.Mkdir p a) = FitsSettable a
FitsArguments (Call.Remove p) = Unit {0}
FitsArguments (Call.Rmdir p) = Unit {0}
FitsArguments (Call.Rename p q) = Unit {0}
FitsArguments (Call.Link h p) = Unit {0}
FitsArguments (Call.Readdir h cookie verifier count) = Unit {0}
FitsArguments (Call.Fsstat h) = Unit {0}
FitsArguments (Call.Fsinfo h) = Unit {0}
FitsArguments (Call.Pathconf h) = Unit {0}
FitsArguments (Call.Commit h) = Unit {0}
FitsArguments Call.Unserved = Unit {0}

-- ---- what is known of arguments: their parts lie within the call, and their numbers fit where the call is bytes
abbrev KnownRange : List ℕ → Arguments → Type 0
KnownRange s a = Within (length s) a × (Below 256 s → FitsArguments a)

handle_within : (s : List ℕ) (at : ℕ) (a : Part) (q : ℕ) → handle s at ≡ got a q → PartWithin (length s) a
unfolding handle
handle_within s at a q e = (opaque_within most_handle_bytes s at a q e).0

unbounded_within : (s : List ℕ) (at : ℕ) (a : Part) (q : ℕ) → unbounded s at ≡ got a q → PartWithin (length s) a
unfolding unbounded
unbounded_within s at a q e = (opaque_within no_maximum s at a q e).0

name_within : (s : List ℕ) (at : ℕ) (a : NameIn) (q : ℕ) → name_in s at ≡ got a q → NameWithin (length s) a
unfolding name_in
name_within s at a q e =
    bind_got (handle s at) _ a q e (λ directory p₁ e₁ f₁.
    bind_got (unbounded s p₁) _ a q f₁ (λ name p₂ e₂ f₂.
    subst (NameWithin (length s)) (same_value (record { directory = directory; name = name }) a p₂ q f₂)
    (handle_within s at directory p₁ e₁, unbounded_within s p₁ name p₂ e₂)))

-- of a form: its rest gives such arguments, whatever its first field was, as long as that lies within the call
abbrev Gained : ℕ → Form → Type 0
Gained p none = Unit {0}
Gained p (handle_then rest) = (s : List ℕ) (object : Part) → PartWithin (length s) object → (at : ℕ) (a : Arguments) (q : ℕ)
    → rest object s at ≡ got a q → KnownRange s a
Gained p (name_then rest) = (s : List ℕ) (place : NameIn) → NameWithin (length s) place → (at : ℕ) (a : Arguments) (q : ℕ)
    → rest place s at ≡ got a q → KnownRange s a
Gained p unread = Unit {0}

gained : (p : ℕ) → Gained p (form p)
gained = by_procedure Gained (record {
  null = tt;
  getattr = λ s h w at a q e. ends s (Call.Getattr h) at a q e (w, λ _. tt);
  setattr = λ s h w at a q e.
      bind_got (settable s at) _ a q e (λ x n₁ e₁ f₁.
      bind_got (guard s n₁) _ a q f₁ (λ g n₂ e₂ f₂. ends s (Call.Setattr h x g) n₂ a q f₂ (w, λ b. settable_fits s b at x n₁ e₁)));
  lookup = λ s x w at a q e. ends s (Call.Lookup x) at a q e (w, λ _. tt);
  access = λ s h w at a q e. bind_got (word s at) _ a q e (λ bits n₁ e₁ f₁. ends s (Call.Access h bits) n₁ a q f₁ (w, λ _. tt));
  read = λ s h w at a q e.
      bind_got (long s at) _ a q e (λ offset n₁ e₁ f₁.
      bind_got (word s n₁) _ a q f₁ (λ count n₂ e₂ f₂. ends s (Call.Read h offset count) n₂ a q f₂ (w, λ _. tt)));
  write = λ s h w at a q e.
      bind_got (long s at) _ a q e (λ offset n₁ e₁ f₁.
      bind_got (word s n₁) _ a q f₁ (λ count n₂ e₂ f₂.
      bind_got (choice 2 s n₂) _ a q f₂ (λ stable n₃ e₃ f₃.
      bind_got (unbounded s n₃) _ a q f₃ (λ bytes n₄ e₄ f₄.
      ends s (Call.Write h offset count bytes) n₄ a q f₄ ((w, unbounded_within s n₃ bytes n₄ e₄), λ _. tt)))));
  create = λ s x w at a q e. bind_got (how s at) _ a q e (λ m n₁ e₁ f₁. ends s (Call.Create x m) n₁ a q f₁ (w, λ b. how_fits s b at m n₁ e₁));
  mkdir = λ s x w at a q e. bind_got (settable s at) _ a q e (λ y n₁ e₁ f₁. ends s (Call.Mkdir x y) n₁ a q f₁ (w, λ b. settable_fits s b at y n₁ e₁));
  remove = λ s x w at a q e. ends s (Call.Remove x) at a q e (w, λ _. tt);
  rmdir = λ s x w at a q e. ends s (Call.Rmdir x) at a q e (w, λ _. tt);
  rename = λ s x w at a q e. bind_got (name_in s at) _ a q e (λ y n₁ e₁ f₁. ends s (Call.Rename x y) n₁ a q f₁ ((w, name_within s at y n₁ e₁), λ _. tt));
  link = λ s h w at a q e. bind_got (name_in s at) _ a q e (λ x n₁ e₁ f₁. ends s (Call.Link h x) n₁ a q f₁ ((w, name_within s at x n₁ e₁), λ _. tt));
  readdir = λ s h w at a q e.
      bind_got (long s at) _ a q e (λ cookie n₁ e₁ f₁.
      bind_got (long s n₁) _ a q f₁ (λ verifier n₂ e₂ f₂.
      bind_got (word s n₂) _ a q f₂ (λ count n₃ e₃ f₃. ends s (Call.Readdir h cookie verifier count) n₃ a q f₃ (w, λ _. tt))));
  fsstat = λ s h w at a q e. ends s (Call.Fsstat h) at a q e (w, λ _. tt);
  fsinfo = λ s h w at a q e. ends s (Call.Fsinfo h) at a q e (w, λ _. tt);
  pathconf = λ s h w at a q e. ends s (Call.Pathconf h) at a q e (w, λ _. tt);
  commit = λ s h w at a q e.
      bind_got (long s at) _ a q e (λ offset n₁ e₁ f₁.
      bind_got (word s n₁) _ a q f₁ (λ count n₂ e₂ f₂. ends s (Call.Commit h) n₂ a q f₂ (w, λ _. tt)));
  others = λ p. tt;
})
  where
    -- the value at the end is what was read
    ends : (s : List ℕ) (x : Arguments) (n : ℕ) (a : Arguments) (q : ℕ) → got x n ≡ got a q → KnownRange s x → KnownRange s a
    ends s x n a q f h = subst (KnownRange s) (same_value x a n q f) h

-- after the arguments the call ends
whole_known : (r : Reader Arguments) (s : List ℕ) (at : ℕ) → ((a : Arguments) (q : ℕ) → r s at ≡ got a q → KnownRange s a) → (a : Arguments) (q : ℕ)
    → whole r s at ≡ got a q → KnownRange s a
whole_known r s at f a q e =
    bind_got (r s at) _ a q e (λ x n₁ e₁ f₁.
    bind_got (end s n₁) _ a q f₁ (λ u n₂ e₂ f₂. subst (KnownRange s) (same_value x a n₂ q f₂) (f x n₁ e₁)))

formed_known : (p : ℕ) (f : Form) → Gained p f → (s : List ℕ) (at : ℕ) (a : Arguments) (q : ℕ) → formed f s at ≡ got a q → KnownRange s a
formed_known p none g s at = whole_known (done Call.Null) s at (λ a q e. subst (KnownRange s) (same_value Call.Null a at q e) (tt, λ _. tt))
formed_known p (handle_then rest) g s at = whole_known (handle >>= rest) s at (λ a q e.
    bind_got (handle s at) _ a q e (λ object n e₁ f₁. g s object (handle_within s at object n e₁) n a q f₁))
formed_known p (name_then rest) g s at = whole_known (name_in >>= rest) s at (λ a q e.
    bind_got (name_in s at) _ a q e (λ place n e₁ f₁. g s place (name_within s at place n e₁) n a q f₁))
formed_known p unread g s at = λ a q e. subst (KnownRange s) (same_value Call.Unserved a at q e) (tt, λ _. tt)

arguments_known : (p : ℕ) (s : List ℕ) (at : ℕ) (a : Arguments) (q : ℕ) → arguments p s at ≡ got a q → KnownRange s a
unfolding arguments
arguments_known p = formed_known p (form p) (gained p)

pub arguments_within : (p : ℕ) (s : List ℕ) (at : ℕ) (a : Arguments) (q : ℕ) → arguments p s at ≡ got a q → Within (length s) a
arguments_within p s at a q e = (arguments_known p s at a q e).0

pub arguments_fit : (p : ℕ) → Gives FitsArguments (arguments p)
arguments_fit p s b at a q e = (arguments_known p s at a q e).1 b
