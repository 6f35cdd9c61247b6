-- "its meaning doesn't depend on them": two calls that differ at most in padding have the same outcome, and do the same to the book. Assumes
-- nothing.
use Prim.Native.Nat.{ℕ, ◌≤◌}
use native.Mathlib.Omega.{arith}
use mathlib.Core.Bool.{true, false}
use mathlib.Core.List.Memᴰ
use mathlib.Core.List.{List, [], ◌∷◌, ◌++◌, Memᴰ}
use mathlib.Core.Logic.{⊎_elim}
use mathlib.Core.Option.{some}
use mathlib.Core.Path.{◌≡◌, refl, sym, ap, subst, ◌∙◌}
use lib.ListN.{length}
use borrow.Author.Tests.{le-leb, lt-ltb}
use Rattle.kinds.specs.Reading.{Read, got, bad}
use Rattle.kinds.specs.declared.numbers.Fault.{Fault}
use Rattle.kinds.specs.declared.object.Context.{Context}
use Rattle.kinds.specs.declared.call.Part.{Part}
use Rattle.kinds.specs.declared.call.CallHeader.{CallHeader}
use Rattle.kinds.specs.declared.call.Header.{Header}
use Rattle.kinds.specs.declared.call.Header.TheVariants as Header
use Rattle.kinds.specs.declared.call.Arguments.{Arguments}
use Rattle.kinds.specs.declared.call.Arguments.TheVariants as Call
use Rattle.spec.specs.Arguments.{arguments}
use Rattle.spec.specs.Bytes.{be_of, be_at, overlay, padding}
use Rattle.spec.specs.Checked.{Checked, refused, passed}
use Rattle.spec.specs.Header.{header, header_fault}
use Rattle.spec.specs.Image.{Store}
use Rattle.spec.specs.Procedures.{act}
use Rattle.spec.specs.Rpc.{nfs, judge}
use Rattle.spec.specs.Serve.{refuse, send, finish, perform, answer, complete, serve}
use Rattle.spec.specs.Xdr.{Reader, bind, ◌>>=◌, done}
use Rattle.laws.proofs.Bytes.{overlay_length, same_part}
use Rattle.laws.proofs.Count.{true_false}
use Rattle.laws.proofs.Tests.{and_true, or_none}
use Rattle.laws_contents.proofs.Laid.{WithinStore, Outside, within?, byte_apart}
use Rattle.history.specs.Book.{Ledger, arguments_got, judged_arguments, headed_arguments, asked, noted, note}
use Rattle.history.specs.Run.{Request, reply_to, State, step, run}
use Rattle.laws_padding.specs.Fields.{header_fields, argument_fields, judged_fields, headed_fields, fields_of, argument_parts, header_parts}
use Rattle.laws_padding.specs.Alike.{pad_start, pad_end, in_padding, in_paddings, SameButPads, SameRequest, SameRequests}
use Rattle.laws_padding.proofs.ReadsAlike.{Before, SameCuts, SameWhereRead, ReadsAlike, alike_done, alike_plain, alike_before}
use Rattle.laws_padding.proofs.ReadsAlike.{first_where_read, second_where_read, alike_then}
use Rattle.laws_padding.proofs.Readers.{alike_header, alike_arguments}

-- ---- the parts of a call, as a reader: of its header, and of its arguments where they are read
abbrev judged_parts : List Part → ℕ → Checked (Unit {0}) → Reader (List Part)
judged_parts before p (refused stat) = done before
judged_parts before p (passed _) = arguments p >>= (λ a. done (before ++ argument_parts a))

abbrev headed_parts : Header → Reader (List Part)
headed_parts (Header.OtherVersion xid) = done []
headed_parts (Header.Call h) = judged_parts (header_parts (Header.Call h)) h.procedure (judge nfs h)

module _ (s t : List ℕ) (same : length t ≡ length s) where
  alike_judged : (before : List Part) (p : ℕ) (j : Checked (Unit {0})) → ReadsAlike s t (judged_parts before p j) (judged_fields p j) before (λ l. l)
  alike_judged before p (refused stat) = alike_done s t same before before (λ l. l) refl
  alike_judged before p (passed _) =
      alike_plain s t same (arguments p) _ (argument_fields p) before (λ a. before ++ argument_parts a) (λ l. l)
      (alike_before s t same (arguments p) (argument_fields p) before argument_parts (alike_arguments s t same p)) (λ a.
      alike_done s t same (before ++ argument_parts a) _ (λ l. l) refl)

  alike_headed : (h : Header) → ReadsAlike s t (headed_parts h) (headed_fields h) (header_parts h) (λ l. l)
  alike_headed (Header.OtherVersion xid) = alike_done s t same [] [] (λ l. l) refl
  alike_headed (Header.Call h) = alike_judged (header_parts (Header.Call h)) h.procedure (judge nfs h)

-- ---- what is read of the two calls
module _ (s t : List ℕ) (h : SameButPads s t) where
  call_where_read : SameWhereRead s t 0 ((header >>= headed_parts) s 0) (fields_of s)
  call_where_read i l b out = h.same_byte i out

  header_where_read : SameWhereRead s t 0 (header s 0) (header_fields s 0)
  unfolding fields_of
  header_where_read =
      first_where_read s t h.same_length header headed_parts header_fields headed_fields [] header_parts (λ l. l) (alike_header s t h.same_length)
      (alike_headed s t h.same_length) 0 (header s 0) refl call_where_read

  pub header_same : header t 0 ≡ header s 0
  header_same = (alike_header s t h.same_length).same 0 header_where_read

  -- where it is refused, the word at that place is the same
  pub fault_same : (q : ℕ) → header s 0 ≡ bad q → header_fault t q ≡ header_fault s q
  unfolding header_fault be_at
  fault_same q e =
      let w : be_at t q 4 ≡ be_at s q 4 =
      ap be_of (same_part s t h.same_length q 4 (λ i l m.
      header_where_read i (omega arith) (subst (λ (r : Read Header). Before r i) (sym e) tt) ((alike_header s t h.same_length).clear 0 q e i l m))) in
      rw (h.same_length, w)

  headed_where_read : (x : Header) (at : ℕ) → header s 0 ≡ got x at → SameWhereRead s t at (headed_parts x s at) (headed_fields x s at)
  unfolding fields_of
  headed_where_read x at e =
      second_where_read s t h.same_length header headed_parts header_fields headed_fields [] header_parts (λ l. l) (alike_header s t h.same_length)
      (alike_headed s t h.same_length) 0 x at e (rw e at call_where_read)

  -- the padding of both is in the same places
  pub fields_same : fields_of t ≡ fields_of s
  unfolding fields_of
  fields_same =
      (alike_then s t h.same_length header headed_parts header_fields headed_fields [] header_parts (λ l. l) (alike_header s t h.same_length)
      (alike_headed s t h.same_length)).listing 0 call_where_read

  -- the arguments of a call with this header, where they are read
  module _ (x : CallHeader) (at : ℕ) (e : header s 0 ≡ got (Header.Call x) at) (j : judge nfs x ≡ passed tt) where
    abbrev p : ℕ
    p = x.procedure

    arguments_where_read : SameWhereRead s t at (arguments p s at) (argument_fields p s at)
    arguments_where_read i l b out =
        subst (λ (c : Checked (Unit {0})). SameWhereRead s t at (judged_parts (header_parts (Header.Call x)) p c s at) (judged_fields p c s at)) j
        (headed_where_read (Header.Call x) at e) i l (also_before (arguments p s at) i b) out
      where
        also_before : (r : Read Arguments) (k : ℕ) → Before r k
            → Before (bind r (λ a next. got (header_parts (Header.Call x) ++ argument_parts a) next)) k
        also_before (got a next) k b = b
        also_before (bad q) k b = tt

    pub arguments_same : arguments p t at ≡ arguments p s at
    arguments_same = (alike_arguments s t h.same_length p).same at arguments_where_read

    pub cuts_same : (a : Arguments) (next : ℕ) → arguments p s at ≡ got a next → SameCuts s t (argument_parts a)
    cuts_same a next f =
        let alike = alike_arguments s t h.same_length p in
        subst (SameCuts s t) (alike.listed at a next f) (alike.cuts at arguments_where_read)

-- so it does not matter which of the two is read to find it
pub alike_sym : (s t : List ℕ) → SameButPads s t → SameButPads t s
alike_sym s t h =
    record {
      same_length = sym h.same_length;
      same_byte = λ i out. sym (h.same_byte i (ap (λ (l : List Part). in_paddings l i) (sym (fields_same s t h)) ∙ out));
    }

-- of a call that is read to its end the fields are the bodies of credential and verifier, and every handle, name and data of its arguments
pub fields_read : (s : List ℕ) (x : CallHeader) (at : ℕ) → header s 0 ≡ got (Header.Call x) at → judge nfs x ≡ passed tt
    → (a : Arguments) (next : ℕ) → arguments x.procedure s at ≡ got a next
    → fields_of s ≡ x.credential.body ∷ x.verifier.body ∷ argument_parts a
unfolding fields_of
fields_read s x at e j a next f =
    (alike_then s s refl header headed_parts header_fields headed_fields [] header_parts (λ l. l) (alike_header s s refl) (alike_headed s s refl)
    ).listed 0 (header_parts (Header.Call x) ++ argument_parts a) next (rw (e, j, f))

-- ---- what a call does, and what it does to the book
module _ (s t : List ℕ) where
  act_same : (store : Store) (c : Context) (a : Arguments) → SameCuts s t (argument_parts a) → act store c t a ≡ act store c s a
  unfolding act
  act_same store c Call.Null e = refl
  act_same store c (Call.Getattr o) e = rw e.0
  act_same store c (Call.Setattr o a g) e = rw e.0
  act_same store c (Call.Lookup x) e = rw (e.0, e.1.0)
  act_same store c (Call.Access o bits) e = rw e.0
  act_same store c (Call.Read f offset count) e = rw e.0
  act_same store c (Call.Write f offset count bytes) e = rw (e.0, e.1.0)
  act_same store c (Call.Create x manner) e = rw (e.0, e.1.0)
  act_same store c (Call.Mkdir x a) e = rw (e.0, e.1.0)
  act_same store c (Call.Remove x) e = rw (e.0, e.1.0)
  act_same store c (Call.Rmdir x) e = rw (e.0, e.1.0)
  act_same store c (Call.Rename x y) e = rw (e.0, e.1.0, e.1.1.0, e.1.1.1.0)
  act_same store c (Call.Link f x) e = rw (e.0, e.1.0, e.1.1.0)
  act_same store c (Call.Readdir d cookie verifier count) e = rw e.0
  act_same store c (Call.Fsstat o) e = rw e.0
  act_same store c (Call.Fsinfo o) e = rw e.0
  act_same store c (Call.Pathconf o) e = rw e.0
  act_same store c (Call.Commit f) e = rw e.0
  act_same store c Call.Unserved e = refl

  noted_same : (reply : List ℕ) (L : Ledger) (a : Arguments) → SameCuts s t (argument_parts a) → noted t reply L (some a) ≡ noted s reply L (some a)
  unfolding noted
  noted_same reply L Call.Null e = refl
  noted_same reply L (Call.Getattr o) e = refl
  noted_same reply L (Call.Setattr o a g) e = refl
  noted_same reply L (Call.Lookup x) e = refl
  noted_same reply L (Call.Access o bits) e = refl
  noted_same reply L (Call.Read f offset count) e = refl
  noted_same reply L (Call.Write f offset count bytes) e = refl
  noted_same reply L (Call.Create x manner) e = rw (e.0, e.1.0)
  noted_same reply L (Call.Mkdir x a) e = rw (e.0, e.1.0)
  noted_same reply L (Call.Remove x) e = rw (e.0, e.1.0)
  noted_same reply L (Call.Rmdir x) e = rw (e.0, e.1.0)
  noted_same reply L (Call.Rename x y) e = rw (e.0, e.1.0, e.1.1.0, e.1.1.1.0)
  noted_same reply L (Call.Link f x) e = rw (e.0, e.1.0, e.1.1.0)
  noted_same reply L (Call.Readdir d cookie verifier count) e = refl
  noted_same reply L (Call.Fsstat o) e = refl
  noted_same reply L (Call.Fsinfo o) e = refl
  noted_same reply L (Call.Pathconf o) e = refl
  noted_same reply L (Call.Commit f) e = refl
  noted_same reply L Call.Unserved e = refl

-- ---- the outcome, and the book
module _ (s t : List ℕ) (h : SameButPads s t) where
  complete_same : (space : List ℕ) (store : Store) (c : Context) (r : Read Header) → header s 0 ≡ r
      → complete space store c t r ≡ complete space store c s r
  complete_same space store c (bad q) e = ap (λ (f : Fault). refuse f space store) (fault_same s t h q e)
  complete_same space store c (got (Header.OtherVersion xid) at) e = refl
  complete_same space store c (got (Header.Call x) at) e = ap (send space) (judged (judge nfs x) refl)
    where
      performed : judge nfs x ≡ passed tt → (r : Read Arguments) → arguments x.procedure s at ≡ r → perform store c t x r ≡ perform store c s x r
      performed j (bad q) f = refl
      performed j (got a next) f = ap (finish x) (act_same s t store c a (cuts_same s t h x at e j a next f))

      judged : (j : Checked (Unit {0})) → judge nfs x ≡ j → answer store c t x at j ≡ answer store c s x at j
      judged (refused stat) f = refl
      judged (passed u) f =
          ap (perform store c t x) (arguments_same s t h x at e f) ∙ performed f (arguments x.procedure s at) refl

  -- "its meaning doesn't depend on them": answer, reply length, offset, reply space and store
  pub serve_same : (store : Store) (space : List ℕ) (c : Context) → serve t store space c ≡ serve s store space c
  unfolding serve
  serve_same store space c = rw (h.same_length, header_same s t h, complete_same space store c (header s 0) refl)

  -- what the book is told
  headed_same : (reply : List ℕ) (L : Ledger) (r : Read Header) → header s 0 ≡ r
      → noted t reply L (headed_arguments t r) ≡ noted s reply L (headed_arguments s r)
  unfolding noted
  headed_same reply L (bad q) e = refl
  headed_same reply L (got (Header.OtherVersion xid) at) e = refl
  headed_same reply L (got (Header.Call x) at) e = judged (judge nfs x) refl
    where
      told : judge nfs x ≡ passed tt → (r : Read Arguments) → arguments x.procedure s at ≡ r
          → noted t reply L (arguments_got r) ≡ noted s reply L (arguments_got r)
      told j (bad q) f = refl
      told j (got a next) f = noted_same s t reply L a (cuts_same s t h x at e j a next f)

      judged : (j : Checked (Unit {0})) → judge nfs x ≡ j
          → noted t reply L (judged_arguments t x at j) ≡ noted s reply L (judged_arguments s x at j)
      judged (refused stat) f = refl
      judged (passed u) f =
          ap (λ (r : Read Arguments). noted t reply L (arguments_got r)) (arguments_same s t h x at e f)
          ∙ told f (arguments x.procedure s at) refl

  pub note_same : (reply : List ℕ) (L : Ledger) → note t reply L ≡ note s reply L
  unfolding note asked
  note_same reply L = rw (header_same s t h, headed_same reply L (header s 0) refl)

-- any list of requests, whatever the padding in their calls, leaves the same store and the same book
step_same : (x y : Request) → SameRequest x y → (w : State) → step w y ≡ step w x
unfolding step reply_to
step_same x y e w =
    rw (
      e.context,
      e.space,
      serve_same x.call y.call e.call w.store x.space x.context,
      note_same x.call y.call e.call (reply_to w.store x) w.ledger,
    )

pub run_same : (xs ys : List Request) → SameRequests xs ys → (w : State) → run w ys ≡ run w xs
unfolding run
run_same [] [] e w = refl
run_same [] (y ∷ ys) e w = absurd e
run_same (x ∷ xs) [] e w = absurd e
run_same (x ∷ xs) (y ∷ ys) e w = ap (λ (v : State). run v ys) (step_same x y e.0 w) ∙ run_same xs ys e.1 (step w x)

-- ---- any bytes in the place of the padding of one field
module _ (s : List ℕ) (f : Part) (m : Memᴰ f (fields_of s)) (xs : List ℕ) (fills : length xs ≡ padding f.length) (fits : pad_end f ≤ length s) where
  not_pad : (fs : List Part) → Memᴰ f fs → (i : ℕ) → in_paddings fs i ≡ false → in_padding f i ≡ false
  unfolding in_paddings
  not_pad [] m i e = absurd (Memᴰ.not-nil m)
  not_pad (g ∷ gs) m i e =
      let b = or_none (in_padding g i) (in_paddings gs i) e in
      ⊎_elim (λ (u : f ≡ g). ap (λ (x : Part). in_padding x i) u ∙ b.0) (λ (u : Memᴰ f gs). not_pad gs u i b.1) (Memᴰ.cases_cons m)

  outside : (i : ℕ) → in_padding f i ≡ false → Outside (pad_start f) (length xs) i
  outside i e = ⊎_elim (λ w. absurd (true_false (sym (within w) ∙ e))) (λ w. w) (within? (pad_start f) (length xs) i)
    where
      within : WithinStore (pad_start f) (length xs) i → in_padding f i ≡ true
      within w = and_true _ _ (le-leb (pad_start f) i w.0) (lt-ltb i (pad_end f) (omega (arith, w.1)))

  pub padded_otherwise : SameButPads s (overlay s (pad_start f) xs)
  padded_otherwise =
      record {
        same_length = overlay_length s (pad_start f) xs (omega arith);
        same_byte = λ i out. byte_apart s (pad_start f) xs (omega arith) i (outside i (not_pad (fields_of s) m i out));
      }

  -- "Whatever reads a padded field now accepts any pad bytes": the outcome stays as it is
  pub any_pads : (store : Store) (space : List ℕ) (c : Context) → serve (overlay s (pad_start f) xs) store space c ≡ serve s store space c
  any_pads store space c = serve_same s (overlay s (pad_start f) xs) padded_otherwise store space c
