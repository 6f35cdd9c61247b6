-- What the call entry leaves of the store: as it was, or as the procedure that ran left it. Assumes nothing.
use mathlib.Core.Path.{◌≡◌, refl, ap, ◌∙◌}
use mathlib.Core.Logic.{◌≢◌, ◌⊎◌, ⊎_elim, by_cases}
use native.Mathlib.Decide.{ℕ_discrete}
use mathlib.Core.Bool.{true, false}
use mathlib.Core.List.{List}
use Prim.Native.Nat.{ℕ, ◌≤◌, ◌<◌}
use lib.Dec.{ltb}
use lib.ListN.{length}
use borrow.Author.Tests.{ltb-false, ltb-true}
use Rattle.kinds.specs.Numbers.{least_reply_bytes, most_call_bytes, nanoseconds_end}
use Rattle.kinds.specs.Reading.{Read, got, bad}
use Rattle.kinds.specs.declared.object.Context.{Context}
use Rattle.kinds.specs.declared.call.CallHeader.{CallHeader}
use Rattle.kinds.specs.declared.call.Header.{Header}
use Rattle.kinds.specs.declared.call.Header.TheVariants as Header
use Rattle.kinds.specs.declared.call.Arguments.{Arguments}
use Rattle.spec.specs.Arguments.{arguments}
use Rattle.spec.specs.Bytes.{be_at}
use Rattle.spec.specs.Check.{good_time, passes}
use Rattle.spec.specs.Checked.{Checked, refused, passed}
use Rattle.spec.specs.Header.{header, header_fault}
use Rattle.spec.specs.Image.{Store}
use Rattle.spec.specs.Procedures.{act}
use Rattle.spec.specs.Rpc.{nfs, judge}
use Rattle.spec.specs.Serve.{Outcome, refuse, send, finish, perform, answer, respond, complete, serve}
use Rattle.laws.proofs.Count.{by_bool}
use Rattle.laws.proofs.Error.{status_of, NotDone, act_kept, status_word}

-- a procedure ran: every test before it passed
pub record Ran (call : List ℕ) (s : Store) (space : List ℕ) (c : Context) : Type 0 where
  pub space_long : least_reply_bytes ≤ length space
  pub clock_valid : c.clock.nanoseconds < nanoseconds_end
  pub call_short : length call ≤ most_call_bytes
  pub store_passes : passes s ≡ true
  pub head : CallHeader
  pub at : ℕ
  pub head_read : header call 0 ≡ got (Header.Call head) at
  pub judged : judge nfs head ≡ passed tt
  pub asked : Arguments
  pub next : ℕ
  pub asked_read : arguments head.procedure call at ≡ got asked next
  pub outcome : serve call s space c ≡ send space (finish head (act s c call asked))

module _ (call : List ℕ) (s : Store) (space : List ℕ) (c : Context) where
  -- the tests before the header
  after_tests : ltb (length space) least_reply_bytes ≡ false → good_time c.clock ≡ true → ltb most_call_bytes (length call) ≡ false → passes s ≡ true
      → serve call s space c ≡ complete space s c call (header call 0)
  unfolding serve
  after_tests a b d e = rw (a, b, d, e)

  module _ (a : ltb (length space) least_reply_bytes ≡ false) (b : good_time c.clock ≡ true)
      (d : ltb most_call_bytes (length call) ≡ false) (e : passes s ≡ true) where
    by_arguments : (h : CallHeader) (at : ℕ) → header call 0 ≡ got (Header.Call h) at → judge nfs h ≡ passed tt
        → (r : Read Arguments) → arguments h.procedure call at ≡ r → ((serve call s space c).store ≡ s) ⊎ Ran call s space c
    unfolding good_time
    by_arguments h at q j (bad p) f =
        let w : serve call s space c ≡ send space (perform s c call h (bad p)) = after_tests a b d e ∙ rw (q, j, f) in
        ◌⊎◌.inl (ap (λ (o : Outcome). o.store) w)
    by_arguments h at q j (got asked next) f =
        ◌⊎◌.inr (record {
          space_long = ltb-false (length space) least_reply_bytes a;
          clock_valid = ltb-true c.clock.nanoseconds nanoseconds_end b;
          call_short = ltb-false most_call_bytes (length call) d;
          store_passes = e;
          head = h;
          at = at;
          head_read = q;
          judged = j;
          asked = asked;
          next = next;
          asked_read = f;
          outcome = after_tests a b d e ∙ rw (q, j, f);
        })

    by_judged : (h : CallHeader) (at : ℕ) → header call 0 ≡ got (Header.Call h) at → (j : Checked (Unit {0})) → judge nfs h ≡ j
        → ((serve call s space c).store ≡ s) ⊎ Ran call s space c
    by_judged h at q (refused stat) f =
        let w : serve call s space c ≡ send space (answer s c call h at (refused stat)) = after_tests a b d e ∙ rw (q, f) in
        ◌⊎◌.inl (ap (λ (o : Outcome). o.store) w)
    by_judged h at q (passed tt) f = by_arguments h at q f (arguments h.procedure call at) refl

    by_header : (r : Read Header) → header call 0 ≡ r → ((serve call s space c).store ≡ s) ⊎ Ran call s space c
    by_header (bad p) q =
        let w : serve call s space c ≡ refuse (header_fault call p) space s = after_tests a b d e ∙ rw q in
        ◌⊎◌.inl (ap (λ (o : Outcome). o.store) w)
    by_header (got (Header.OtherVersion xid) at) q =
        let w : serve call s space c ≡ send space (respond s c call (Header.OtherVersion xid) at) = after_tests a b d e ∙ rw q in
        ◌⊎◌.inl (ap (λ (o : Outcome). o.store) w)
    by_header (got (Header.Call h) at) q = by_judged h at q (judge nfs h) refl

  -- the store is as it was, or a procedure ran
  pub serve_ran : ((serve call s space c).store ≡ s) ⊎ Ran call s space c
  unfolding serve
  serve_ran =
      by_bool (ltb (length space) least_reply_bytes)
      (λ a. ◌⊎◌.inl (rw a))
      (λ a. by_bool (good_time c.clock)
      (λ b. by_bool (ltb most_call_bytes (length call))
      (λ d. ◌⊎◌.inl (rw (a, b, d)))
      (λ d. by_bool (passes s)
      (λ e. by_header a b d e (header call 0) refl)
      (λ e. ◌⊎◌.inl (rw (a, b, d, e)))))
      (λ b. ◌⊎◌.inl (rw (a, b))))

  -- ---- errors
  -- an answer other than 0 leaves the store
  pub serve_refused : (serve call s space c).number ≢ 0 → (serve call s space c).store ≡ s
  serve_refused n = ⊎_elim (λ e. e) (λ r. absurd (n (ap (λ (o : Outcome). o.number) r.outcome))) serve_ran

  -- a reply whose status word is not 0 leaves the store
  pub serve_error : be_at (serve call s space c).space 24 4 ≢ 0 → (serve call s space c).store ≡ s
  serve_error n = ⊎_elim (λ e. e) (λ r. ap (λ (o : Outcome). o.store) r.outcome ∙ act_kept s c call r.asked (not_done r)) serve_ran
    where
      not_done : (r : Ran call s space c) → NotDone (act s c call r.asked).result
      not_done r =
          by_cases (ℕ_discrete (status_of (act s c call r.asked).result) 0)
          (λ e. ⊎_elim (λ z. ◌⊎◌.inr z) (λ z. absurd (n (rw r.outcome z)))
          (status_word space r.head.xid r.head.procedure (act s c call r.asked).result e))
          (λ d. ◌⊎◌.inl d)
