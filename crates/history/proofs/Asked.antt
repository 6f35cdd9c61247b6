-- What `serve` does with a request: where a procedure is asked, its act; otherwise the store and the book stay. Assumes nothing.
use mathlib.Core.Path.{◌≡◌, refl, sym, ap, ◌∙◌}
use mathlib.Core.Logic.{◌⊎◌, inl, inr}
use mathlib.Core.Bool.{true, false, ◌||◌}
use mathlib.Core.Option.{Option, some, none}
use mathlib.Core.List.{List, [], ◌∷◌}
use Prim.Native.Nat.{ℕ, ◌≤◌, ◌<◌}
use native.Mathlib.Omega.{arith}
use lib.Dec.{eqb, ltb, lit<}
use lib.ListN.{length, take}
use lib.Seq.{take_at}
use borrow.Author.Tests.{le-ltb, lt-ltb, ltb-false, ltb-true}
use Rattle.kinds.specs.Numbers.{least_reply_bytes, most_call_bytes, nanoseconds_end}
use Rattle.kinds.specs.Reading.{Read, got, bad}
use Rattle.kinds.specs.declared.numbers.Fault.{Fault}
use Rattle.kinds.specs.declared.object.Context.{Context}
use Rattle.kinds.specs.declared.call.CallHeader.{CallHeader}
use Rattle.kinds.specs.declared.call.Header.{Header}
use Rattle.kinds.specs.declared.call.Header.TheVariants as Header
use Rattle.kinds.specs.declared.call.Arguments.{Arguments}
use Rattle.spec.specs.Arguments.{arguments}
use Rattle.spec.specs.Bytes.{overlay}
use Rattle.spec.specs.Check.{passes, good_time}
use Rattle.spec.specs.Image.{Store}
use Rattle.spec.specs.Procedures.{act}
use Rattle.spec.specs.Replies.{result_bytes}
use Rattle.spec.specs.Checked.{Checked, refused, passed}
use Rattle.spec.specs.Header.{header, fault}
use Rattle.spec.specs.Rpc.{denied, accepted, nfs, judge, mismatch}
use Rattle.spec.specs.Serve.{Outcome, refuse, Sent, send, perform, answer, complete, serve}
use Rattle.laws.proofs.Count.{by_bool}
use Rattle.laws.proofs.Words.{words_length}
use Rattle.history.specs.Book.{Ledger, arguments_got, judged_arguments, headed_arguments, asked, is_status, is_ok, noted, note}
use Rattle.history.specs.Run.{Request, outcome_of, reply_to}
use Rattle.history.specs.Statement.{Asks}
use Rattle.history.proofs.Replies.{short_silent, other_silent}

-- an act's reply, for a call with this number and procedure
abbrev pub act_reply : Store → Context → List ℕ → Arguments → ℕ → ℕ → List ℕ
act_reply s c call a xid p = accepted xid 0 (result_bytes p (act s c call a).result)

-- a procedure was asked: its reply and its store
pub record Acted (s : Store) (x : Request) (a : Arguments) : Type 0 where
  pub xid : ℕ
  pub procedure : ℕ
  pub reply : reply_to s x ≡ act_reply s x.context x.call a xid procedure
  pub store : (outcome_of s x).store ≡ (act s x.context x.call a).store

some_none : {A B : Type 0} {a : A} → none ≡ some a → B
some_none e = let z : ◌≡◌ {A = ℕ} 0 1 = cc in absurd (omega arith)

-- the reply in an outcome
abbrev replied : Outcome → List ℕ
replied o = take o.length o.space

sent_reply : (space : List ℕ) (t : Sent) → replied (send space t) ≡ t.reply
unfolding overlay
sent_reply space t = take_at t.reply _ (length t.reply) refl

-- PROG_UNAVAIL, PROG_MISMATCH and PROC_UNAVAIL are not SUCCESS
judge_stat : (h : CallHeader) (stat : ℕ) → judge nfs h ≡ refused stat → (0 < stat) × (stat < 4294967296)
unfolding judge
judge_stat h stat e =
    by_bool (eqb h.program 100003)
    (λ a. by_bool (ltb h.version 3 || ltb 3 h.version)
    (λ b. is 2 (rw (a, b) at e) (lit< tt) (lit< tt))
    (λ b. by_bool (ltb 21 h.procedure)
    (λ c. is 3 (rw (a, b, c) at e) (lit< tt) (lit< tt))
    (λ c. let z : passed tt ≡ refused stat = rw (a, b, c) at e in let y : ◌≡◌ {A = ℕ} 0 1 = cc in absurd (omega arith))))
    (λ a. is 1 (rw a at e) (lit< tt) (lit< tt))
  where
    is : (n : ℕ) → ◌≡◌ {A = Checked (Unit {0})} (refused n) (refused stat) → 0 < n → n < 4294967296 → (0 < stat) × (stat < 4294967296)
    is n w a b = let z : n ≡ stat = cc in (omega arith, omega arith)

module _ (s : Store) (x : Request) where
  sent : Arguments → ℕ → ℕ → Sent
  sent a xid p = record { reply = act_reply s x.context x.call a xid p; offset = 0; store = (act s x.context x.call a).store }

  answered : (a : Arguments) (r : Read Header) → headed_arguments x.call r ≡ some a
      → (xid : ℕ) × (p : ℕ) × (complete x.space s x.context x.call r ≡ send x.space (sent a xid p))
  unfolding sent
  answered a (bad p) e = some_none e
  answered a (got (Header.OtherVersion xid) at) e = some_none e
  answered a (got (Header.Call h) at) e = judged (judge nfs h) e
    where
      read : (r : Read Arguments) → arguments_got r ≡ some a
          → (xid : ℕ) × (p : ℕ) × (send x.space (perform s x.context x.call h r) ≡ send x.space (sent a xid p))
      read (bad p) e = some_none e
      read (got b next) e = let q : b ≡ a = cc in (h.xid, h.procedure, ap (λ (b : Arguments). send x.space (sent b h.xid h.procedure)) q)

      judged : (j : Checked (Unit {0})) → judged_arguments x.call h at j ≡ some a
          → (xid : ℕ) × (p : ℕ) × (send x.space (answer s x.context x.call h at j) ≡ send x.space (sent a xid p))
      judged (refused stat) e = some_none e
      judged (passed _) e = read (arguments h.procedure x.call at) e

  unanswered : (r : Read Header) → headed_arguments x.call r ≡ none → (complete x.space s x.context x.call r).store ≡ s
  unanswered (bad p) e = refl
  unanswered (got (Header.OtherVersion xid) at) e = refl
  unanswered (got (Header.Call h) at) e = judged (judge nfs h) e
    where
      read : (r : Read Arguments) → arguments_got r ≡ none → (perform s x.context x.call h r).store ≡ s
      read (bad p) e = refl
      read (got b next) e = some_none (sym e)

      judged : (j : Checked (Unit {0})) → judged_arguments x.call h at j ≡ none → (answer s x.context x.call h at j).store ≡ s
      judged (refused stat) e = refl
      judged (passed _) e = read (arguments h.procedure x.call at) e

  -- whatever is sent where nothing is asked shows no status
  silent_sent : (k offset : ℕ) (reply : List ℕ) → is_status k reply ≡ false
      → is_status k (replied (send x.space (record { reply = reply; offset = offset; store = s }))) ≡ false
  silent_sent k offset reply f = ap (is_status k) (sent_reply x.space (record { reply = reply; offset = offset; store = s })) ∙ f

  silence : (k : ℕ) (r : Read Header) → headed_arguments x.call r ≡ none
      → is_status k (replied (complete x.space s x.context x.call r)) ≡ false
  unfolding denied
  silence k (bad p) e = short_silent [] (omega arith) k
  silence k (got (Header.OtherVersion xid) at) e =
      silent_sent k 0 (denied xid) (short_silent (denied xid) (omega (arith, words_length (xid ∷ 1 ∷ 1 ∷ 0 ∷ 2 ∷ 2 ∷ []))) k)
  silence k (got (Header.Call h) at) e = judged (judge nfs h) refl e
    where
      read : (r : Read Arguments) → arguments_got r ≡ none → is_status k (replied (send x.space (perform s x.context x.call h r))) ≡ false
      read (bad p) e = silent_sent k p (accepted h.xid 4 []) (other_silent h.xid 4 [] (lit< tt) (lit< tt) k)
      read (got b next) e = some_none (sym e)

      judged : (j : Checked (Unit {0})) → judge nfs h ≡ j → judged_arguments x.call h at j ≡ none
          → is_status k (replied (send x.space (answer s x.context x.call h at j))) ≡ false
      judged (refused stat) w e =
          let z = judge_stat h stat w in
          let body = mismatch nfs stat in
          silent_sent k 0 (accepted h.xid stat body) (other_silent h.xid stat body z.0 z.1 k)
      judged (passed _) w e = read (arguments h.procedure x.call at) e

  -- the tests in the table's order
  heard : least_reply_bytes ≤ length x.space → x.context.clock.nanoseconds < nanoseconds_end → length x.call ≤ most_call_bytes → passes s ≡ true
      → outcome_of s x ≡ complete x.space s x.context x.call (header x.call 0)
  unfolding serve good_time
  heard a b c d =
      rw (le-ltb (length x.space) least_reply_bytes a, lt-ltb x.context.clock.nanoseconds nanoseconds_end b, le-ltb most_call_bytes (length x.call) c, d)

  pub acted : (a : Arguments) → Asks x a → passes s ≡ true → Acted s x a
  unfolding reply_to asked sent
  acted a q v =
      let h = heard q.space q.clock q.short v in
      let (xid, p, e) = answered a (header x.call 0) q.reads in
      record {
        xid = xid;
        procedure = p;
        reply = ap replied (h ∙ e) ∙ sent_reply x.space (sent a xid p);
        store = ap (λ (o : Outcome). o.store) (h ∙ e);
      }

  -- nothing is asked, or the request is refused: the store stays, and so does every book, and the reply shows no status
  pub record Idle : Type 0 where
    pub store : (outcome_of s x).store ≡ s
    pub ledger : (L : Ledger) → note x.call (reply_to s x) L ≡ L
    pub silent : (k : ℕ) → is_status k (reply_to s x) ≡ false

  refused_idle : (f : Fault) → outcome_of s x ≡ refuse f x.space s → Idle
  unfolding reply_to note is_ok is_status
  refused_idle f e =
      record {
        store = ap (λ (o : Outcome). o.store) e;
        ledger = λ L. ap (λ (o : Outcome). note x.call (replied o) L) e;
        silent = λ k. ap (λ (o : Outcome). is_status k (replied o)) e;
      }

  unasked_idle : asked x.call ≡ none → outcome_of s x ≡ complete x.space s x.context x.call (header x.call 0) → Idle
  unfolding reply_to note asked noted
  unasked_idle n e =
      record {
        store = ap (λ (o : Outcome). o.store) e ∙ unanswered (header x.call 0) n;
        ledger = λ L. by_bool (is_ok (reply_to s x)) (λ t. rw (t, n)) (λ t. rw t);
        silent = λ k. ap (λ (o : Outcome). is_status k (replied o)) e ∙ silence k (header x.call 0) n;
      }

  -- what becomes of a request
  pub served : passes s ≡ true → Idle ⊎ ((a : Arguments) × Asks x a)
  unfolding serve good_time
  served v =
      by_bool (ltb (length x.space) least_reply_bytes)
      (λ a. inl (refused_idle (fault 2 0) (rw a)))
      (λ a. by_bool (ltb x.context.clock.nanoseconds nanoseconds_end)
      (λ b. by_bool (ltb most_call_bytes (length x.call))
      (λ c. inl (refused_idle (fault 4 0) (rw (a, b, c))))
      (λ c. go (asked x.call) refl a b c))
      (λ b. inl (refused_idle (fault 3 0) (rw (a, b)))))
    where
      go : (o : Option Arguments) → asked x.call ≡ o → ltb (length x.space) least_reply_bytes ≡ false
          → ltb x.context.clock.nanoseconds nanoseconds_end ≡ true
          → ltb most_call_bytes (length x.call) ≡ false → Idle ⊎ ((a : Arguments) × Asks x a)
      go none n a b c = inl (unasked_idle n (rw (a, b, c, v)))
      go (some r) n a b c = inr (r, record { space = ltb-false _ _ a; clock = ltb-true _ _ b; short = ltb-false _ _ c; reads = n })
