-- Words in bytes, and handles: three words are read again, and twelve bytes are the handle of the three words they spell. Assumes nothing.
use mathlib.Core.Path.{◌≡◌, sym, ap, ◌∙◌}
use mathlib.Core.List.{List, [], ◌∷◌, ◌++◌, append_assoc, append-nil}
use Prim.Native.Nat.{ℕ, zero, suc, ◌+◌, ◌*◌, ◌<◌}
use native.Mathlib.Omega.{arith}
use lib.ListN.{length, get_or}
use Rattle.kinds.specs.Numbers.{handle_length}
use Rattle.spec.specs.Bytes.{part, be_of, bytes_of, be_at, words}
use Rattle.laws.proofs.Bytes.{part_left, part_right, part_whole, part_add, bytes_length, be_bytes}
use Rattle.laws.proofs.Words.{words_length}
use Rattle.laws.proofs.Range.{Below, bytes_kept}
use Rattle.history.specs.Book.{handle_bytes}

-- word k of words that other bytes may follow
pub word_in : (ws rest : List ℕ) (k : ℕ) → k < length ws → get_or ws k 0 < 4294967296 → be_at (words ws ++ rest) (4 * k) 4 ≡ get_or ws k 0
unfolding words be_at
word_in [] rest k l b = absurd (omega arith)
word_in (w ∷ ws) rest zero l b =
    ap be_of (ap (λ (x : List ℕ). part x 0 4) (append_assoc (bytes_of 4 w) (words ws) rest) ∙ part_left (bytes_of 4 w) (words ws ++ rest) 0 4
    (omega (arith, bytes_length 4 w)) ∙ part_whole (bytes_of 4 w) 4 (bytes_length 4 w))
    ∙ be_bytes 4 w b
word_in (w ∷ ws) rest (suc k) l b =
    let e : 4 * suc k ≡ 4 + 4 * k = omega arith in
    ap be_of (ap (λ (x : List ℕ). part x (4 * suc k) 4) (append_assoc (bytes_of 4 w) (words ws) rest)
    ∙ ap (λ (x : ℕ). part (bytes_of 4 w ++ (words ws ++ rest)) x 4) e
    ∙ part_right (bytes_of 4 w) (words ws ++ rest) 4 (4 * k) 4 (bytes_length 4 w))
    ∙ word_in ws rest k (omega arith) b

-- twelve bytes are the handle of the words that they spell
pub handle_of_lem : (h : List ℕ) → length h ≡ handle_length → Below 256 h → h ≡ handle_bytes (be_at h 0 4) (be_at h 4 4) (be_at h 8 4)
unfolding words
handle_of_lem h e f =
    let a = bytes_kept h f 4 0 (omega arith) in
    let b = bytes_kept h f 4 4 (omega arith) in
    let c = bytes_kept h f 4 8 (omega arith) in
    sym (part_whole h handle_length e) ∙ part_add h 0 4 8 ∙ ap (λ (x : List ℕ). part h 0 4 ++ x) (part_add h 4 4 4)
    ∙ (λ i. sym a i ++ (sym b i ++ sym c i)) ∙ ap (λ (x : List ℕ). bytes_of 4 (be_at h 0 4) ++ (bytes_of 4 (be_at h 4 4) ++ x))
    (sym (append-nil (bytes_of 4 (be_at h 8 4))))

module _ (stamp o generation : ℕ) where
  three : List ℕ
  three = stamp ∷ o ∷ generation ∷ []

  whole_word : (k : ℕ) → k < 3 → get_or three k 0 < 4294967296 → be_at (words three) (4 * k) 4 ≡ get_or three k 0
  unfolding three
  whole_word k l b = ap (λ (x : List ℕ). be_at x (4 * k) 4) (sym (append-nil (words three))) ∙ word_in three [] k l b

  pub handle_length_lem : length (handle_bytes stamp o generation) ≡ handle_length
  handle_length_lem = words_length (stamp ∷ o ∷ generation ∷ [])

  pub handle_stamp : stamp < 4294967296 → be_at (handle_bytes stamp o generation) 0 4 ≡ stamp
  unfolding three
  handle_stamp b = whole_word 0 (omega arith) b

  pub handle_object : o < 4294967296 → be_at (handle_bytes stamp o generation) 4 4 ≡ o
  unfolding three
  handle_object b = whole_word 1 (omega arith) b

  pub handle_generation : generation < 4294967296 → be_at (handle_bytes stamp o generation) 8 4 ≡ generation
  unfolding three
  handle_generation b = whole_word 2 (omega arith) b

pub same_object_lem : (stamp o g p h : ℕ) → o < 4294967296 → p < 4294967296 → handle_bytes stamp o g ≡ handle_bytes stamp p h → o ≡ p
same_object_lem stamp o g p h a b e = sym (handle_object stamp o g a) ∙ ap (λ (x : List ℕ). be_at x 4 4) e ∙ handle_object stamp p h b

pub same_generation_lem : (stamp o g p h : ℕ) → g < 4294967296 → h < 4294967296 → handle_bytes stamp o g ≡ handle_bytes stamp p h → g ≡ h
same_generation_lem stamp o g p h a b e = sym (handle_generation stamp o g a) ∙ ap (λ (x : List ℕ). be_at x 8 4) e ∙ handle_generation stamp p h b
