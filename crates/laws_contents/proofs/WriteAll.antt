-- WRITEs of one file, one after the other, and WRITEs that are sent again. Assumes nothing.
use mathlib.Core.Path.{◌≡◌, refl, sym, ap, ◌∙◌}
use mathlib.Core.Logic.{◌≢◌, ◌⊎◌, by_cases}
use mathlib.Core.List.{List, [], ◌∷◌}
use Prim.Native.Nat.{ℕ, ◌+◌, ◌-◌, ◌≤◌, ◌<◌, max}
use native.Mathlib.Decide.{ℕ_discrete}
use native.Mathlib.Omega.{arith}
use lib.Dec.{eqb}
use lib.ListN.{length}
use borrow.Author.Tests.{eqb-true, eqb-false}
use Rattle.kinds.specs.Numbers.{REGULAR, most_file_bytes}
use Rattle.spec.specs.Image.{Store, objects, object_at}
use Rattle.spec.specs.Procedures.Data.{grown, write_store}
use Rattle.spec.specs.Room.{size_of, need, free_block_count}
use Rattle.laws.proofs.Count.{by_bool}
use Rattle.laws.proofs.GoodRecords.{GoodRecords, GoodClock, clock_fits, still_refl, still_trans}
use Rattle.laws.proofs.Range.{Below}
use Rattle.laws_contents.specs.Contents.{contents}
use Rattle.laws_contents.specs.Sent.{SentWrite, send_to, write_all, writes_of}
use Rattle.laws_contents.specs.Written.{written, Write, after, made}
use Rattle.laws_contents.proofs.Again.{Member, made_again, made_longer}
use Rattle.laws_contents.proofs.Contents.{contents_length}
use Rattle.laws_contents.proofs.Written.{laid_length, written_none, written_some, written_apart}
use Rattle.laws_contents.proofs.WriteEdit.{WroteOne, write_edit_wrote}

-- no write is made
pub wrote_refl : (s : Store) (o : ℕ) → GoodRecords s → WroteOne s o (contents s o) s
wrote_refl s o g = record { still = still_refl s g; kind = λ p l. refl; own = refl; others = λ p l d. refl; room = refl }

-- writes one after the other
pub wrote_trans : (s t u : Store) (o : ℕ) (a b : List ℕ) → WroteOne s o a t → WroteOne t o b u → WroteOne s o b u
wrote_trans s t u o a b x y =
    let e = x.still.shape in
    record {
      still = still_trans s t u x.still y.still;
      kind = λ p l. y.kind p (rw e.objects l) ∙ x.kind p l;
      own = y.own;
      others = λ p l d. y.others p (rw e.objects l) d ∙ x.others p l d;
      room = y.room ∙ x.room;
    }

-- ---- WRITEs of one file
-- a write that may be made: its clock and its bytes are such, and it ends within the largest size
pub record Sendable (x : SentWrite) : Type 0 where
  pub clock : GoodClock x.context.clock
  pub bytes : Below 256 x.write.bytes
  pub fits : 0 < length x.write.bytes → x.write.offset + length x.write.bytes ≤ most_file_bytes

-- each of them may be made
abbrev pub AllSendable : List SentWrite → Type 0
AllSendable [] = Unit {0}
AllSendable (x ∷ xs) = Sendable x × AllSendable xs

-- the blocks that a file's new contents need beyond those that it has
abbrev pub missing : Store → ℕ → List ℕ → ℕ
missing s o new = need (length new) - need (size_of s o)

-- one write, of any bytes
pub send : (s : Store) (g : GoodRecords s) (o : ℕ) → o < objects s → (object_at s o).kind ≡ REGULAR → (x : SentWrite) → Sendable x
    → missing s o (after (contents s o) x.write) ≤ free_block_count s → WroteOne s o (after (contents s o) x.write) (send_to s o x)
unfolding write_store
send s g o l r x h room =
    let i = x.write.offset in
    let xs = x.write.bytes in
    let old = contents s o in
    by_bool (eqb (length xs) 0)
    (λ e. rw (e, written_none old i xs (eqb-true (length xs) 0 e)) (wrote_refl s o g))
    (λ e. let d = eqb-false (length xs) 0 e in
    let n : length (written old i xs) ≡ grown s o i (length xs) =
    ap length (written_some old i xs d) ∙ laid_length old i xs ∙ ap (λ (m : ℕ). max m (i + length xs)) (contents_length s o) in
    rw e (write_edit_wrote s g x.context (clock_fits x.context.clock h.clock) o i xs l r h.bytes (h.fits (omega arith)) (omega arith)
    h.clock (omega arith)))

-- several: the contents are what the writes make of the old contents, where there is room for the size at the end
pub write_all_lem : (s : Store) → GoodRecords s → (o : ℕ) → o < objects s → (object_at s o).kind ≡ REGULAR → (xs : List SentWrite) → AllSendable xs
    → missing s o (made (contents s o) (writes_of xs)) ≤ free_block_count s → WroteOne s o (made (contents s o) (writes_of xs)) (write_all s o xs)
unfolding write_all writes_of made
write_all_lem s g o l r [] h room = wrote_refl s o g
write_all_lem s g o l r (x ∷ xs) h room =
    let new = after (contents s o) x.write in
    let t = send_to s o x in
    let more = made_longer new (writes_of xs) in
    let a = send s g o l r x h.0 (omega arith) in
    let size : size_of t o ≡ length new = sym (contents_length t o) ∙ ap length a.own in
    let b = write_all_lem t a.still.good o (rw a.still.shape.objects l) (a.kind o l ∙ r) xs h.1 (rw a.own (omega (arith, a.room))) in
    wrote_trans s t (write_all t o xs) o new (made new (writes_of xs)) a (rw a.own at b)

-- WRITEs zs that are sent after some of them, ys, were made: the same contents of every file as if only zs had been sent
pub sent_again : (s : Store) → GoodRecords s → (o : ℕ) → o < objects s → (object_at s o).kind ≡ REGULAR → (ys zs : List SentWrite) → AllSendable ys
    → AllSendable zs
    → ((w : Write) → Member w (writes_of ys) → Member w (writes_of zs)) → missing s o (made (contents s o) (writes_of zs)) ≤ free_block_count s
    → (p : ℕ) → p < objects s → contents (write_all (write_all s o ys) o zs) p ≡ contents (write_all s o zs) p
sent_again s g o l r ys zs hy hz f room p m =
    let old = contents s o in
    let part = made old (writes_of ys) in
    let all = made old (writes_of zs) in
    let t = write_all s o ys in
    let e : made part (writes_of zs) ≡ all = made_again old (writes_of ys) (writes_of zs) f in
    let long : length part ≤ length all = rw e at (made_longer part (writes_of zs)) in
    let a = write_all_lem s g o l r ys hy (omega arith) in
    let c = write_all_lem s g o l r zs hz room in
    let size : size_of t o ≡ length part = sym (contents_length t o) ∙ ap length a.own in
    let n = a.still.shape.objects in
    let b = write_all_lem t a.still.good o (rw n l) (a.kind o l ∙ r) zs hz (rw (a.own, e) (omega (arith, a.room))) in
    by_cases (ℕ_discrete p o)
    (λ q. rw q (b.own ∙ rw a.own e ∙ sym c.own))
    (λ d. b.others p (rw n m) d ∙ a.others p m d ∙ sym (c.others p m d))

-- ---- WRITEs of two files
module _ (s : Store) (g : GoodRecords s) where
  -- one after the other: each file has its own write
  pub send_both : (o q : ℕ) → o < objects s → q < objects s → o ≢ q → (object_at s o).kind ≡ REGULAR → (object_at s q).kind ≡ REGULAR
      → (x y : SentWrite) → Sendable x → Sendable y
      → missing s o (after (contents s o) x.write) + missing s q (after (contents s q) y.write) ≤ free_block_count s
      → let u = send_to (send_to s o x) q y in
      (contents u o ≡ after (contents s o) x.write) × (contents u q ≡ after (contents s q) y.write)
      × ((p : ℕ) → p < objects s → p ≢ o → p ≢ q → contents u p ≡ contents s p)
  send_both o q l m d r k x y hx hy room =
      let t = send_to s o x in
      let a = send s g o l r x hx (omega arith) in
      let n = a.still.shape.objects in
      let same = a.others q m (λ e. d (sym e)) in
      let old : size_of t q ≡ size_of s q = sym (contents_length t q) ∙ ap length same ∙ contents_length s q in
      let new : size_of t o ≡ length (after (contents s o) x.write) = sym (contents_length t o) ∙ ap length a.own in
      let b = send t a.still.good q (rw n m) (a.kind q m ∙ k) y hy (rw same (omega (arith, a.room))) in (
        b.others o (rw n l) d ∙ a.own,
        b.own ∙ ap (λ (z : List ℕ). after z y.write) same,
        λ p i e f. b.others p (rw n i) f ∙ a.others p i e,
      )

  -- in either order: the same contents of every file
  pub send_either : (o q : ℕ) → o < objects s → q < objects s → o ≢ q → (object_at s o).kind ≡ REGULAR → (object_at s q).kind ≡ REGULAR
      → (x y : SentWrite) → Sendable x → Sendable y
      → missing s o (after (contents s o) x.write) + missing s q (after (contents s q) y.write) ≤ free_block_count s
      → (p : ℕ) → p < objects s → contents (send_to (send_to s o x) q y) p ≡ contents (send_to (send_to s q y) o x) p
  send_either o q l m d r k x y hx hy room p i =
      let a = send_both o q l m d r k x y hx hy room in
      let b = send_both q o m l (λ e. d (sym e)) k r y x hy hx (omega arith) in
      by_cases (ℕ_discrete p o)
      (λ e. rw e (a.0 ∙ sym b.1))
      (λ e. by_cases (ℕ_discrete p q) (λ f. rw f (a.1 ∙ sym b.0)) (λ f. a.2 p i e f ∙ sym (b.2 p i f e)))

  -- two WRITEs of one file that lie apart, in either order: the same contents of every file
  pub send_apart : (o : ℕ) → o < objects s → (object_at s o).kind ≡ REGULAR → (x y : SentWrite) → Sendable x → Sendable y
      → (x.write.offset + length x.write.bytes ≤ y.write.offset) ⊎ (y.write.offset + length y.write.bytes ≤ x.write.offset)
      → missing s o (after (after (contents s o) x.write) y.write) ≤ free_block_count s
      → (p : ℕ) → p < objects s → contents (send_to (send_to s o x) o y) p ≡ contents (send_to (send_to s o y) o x) p
  unfolding write_all writes_of made
  send_apart o l r x y hx hy d room p i =
      let e = written_apart (contents s o) x.write.offset x.write.bytes y.write.offset y.write.bytes d in
      let a = write_all_lem s g o l r (x ∷ y ∷ []) (hx, (hy, tt)) room in
      let b = write_all_lem s g o l r (y ∷ x ∷ []) (hy, (hx, tt)) (rw (← e) room) in
      by_cases (ℕ_discrete p o) (λ q. rw q (a.own ∙ e ∙ sym b.own)) (λ q. a.others p i q ∙ sym (b.others p i q))
