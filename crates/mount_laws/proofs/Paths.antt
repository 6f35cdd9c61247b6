-- The path in the arguments that were read lies within the call, and is at most 1,024 bytes long; reading stops within the call. Assumes nothing.
use mathlib.Core.Path.{◌≡◌, ap, subst}
use mathlib.Core.Bool.{Bool, true, false, cond}
use mathlib.Core.List.{List}
use Prim.Native.Nat.{ℕ, ◌+◌, ◌≤◌}
use native.Mathlib.Omega.{arith}
use lib.Dec.{eqb}
use lib.ListN.{length, length-take}
use Rattle.kinds.specs.Mount.{most_path_bytes}
use Rattle.kinds.specs.Reading.{got, bad, place_of}
use Rattle.kinds.specs.declared.call.CallHeader.{CallHeader}
use Rattle.kinds.specs.declared.call.Header.TheVariants as Header
use Rattle.kinds.specs.declared.call.Part.{Part}
use Rattle.kinds.specs.declared.mount.MountArguments.{MountArguments}
use Rattle.kinds.specs.declared.mount.MountArguments.TheVariants as Mount
use Rattle.spec.specs.Bytes.{part}
use Rattle.spec.specs.Header.{header}
use Rattle.spec.specs.Xdr.{Reader, end}
use Rattle.laws.proofs.Places.{Inside, InsideOf, built, inside_then, inside_end, inside_opaque, header_long}
use Rattle.laws.proofs.Readers.{of_cond}
use Rattle.laws.proofs.Xdr.{same_value, bind_got, opaque_within}
use Rattle.mount_spec.specs.Arguments.{dirpath, path_alone, of_path, of_nothing, mount_arguments}

-- a path lies within a call of n bytes, and is short
pub record ShortPath (n : ℕ) (path : Part) : Type 0 where
  pub inside : path.start + path.length ≤ n
  pub short : path.length ≤ most_path_bytes

-- so does the path of arguments that have one
abbrev pub PathWithin : ℕ → MountArguments → Type 0
PathWithin n Mount.Null = Unit {0}
PathWithin n (Mount.Mnt path) = ShortPath n path
PathWithin n Mount.Dump = Unit {0}
PathWithin n (Mount.Umnt path) = ShortPath n path
PathWithin n Mount.Umntall = Unit {0}
PathWithin n Mount.Export = Unit {0}

-- a part of n bytes has at most n, as the path that it is
pub part_most : (b : List ℕ) (at n : ℕ) → length (part b at n) ≤ n
unfolding part
part_most b at n = simp length-take (omega arith)

alone : (call : List ℕ) (at : ℕ) (path : Part) (next : ℕ) → path_alone call at ≡ got path next → ShortPath (length call) path
unfolding dirpath
alone call at path next e =
    bind_got (dirpath call at) _ path next e (λ p i u v.
    bind_got (end call i) _ path next v (λ _ j _ w.
    let (inside, short) = opaque_within most_path_bytes call at p i u in
    subst (ShortPath (length call)) (same_value p path j next w) (record { inside = inside; short = short })))

module _ (call : List ℕ) where
  -- whatever a reader gives has such a path
  abbrev Gives : Reader MountArguments → Type 0
  Gives r = (at : ℕ) (a : MountArguments) (next : ℕ) → r call at ≡ got a next → PathWithin (length call) a

  gives_cond : (t : Bool) (r q : Reader MountArguments) → Gives r → Gives q → Gives (cond t r q)
  gives_cond true r q f g = f
  gives_cond false r q f g = g

  gives_path : (k : Part → MountArguments) → ((path : Part) → ShortPath (length call) path → PathWithin (length call) (k path)) → Gives (of_path k)
  gives_path k f at a next e =
      bind_got (path_alone call at) _ a next e (λ p i u v.
      subst (PathWithin (length call)) (same_value (k p) a i next v) (f p (alone call at p i u)))

  gives_nothing : (b : MountArguments) → PathWithin (length call) b → Gives (of_nothing b)
  gives_nothing b h at a next e =
      bind_got (end call at) _ a next e (λ _ j _ w. subst (PathWithin (length call)) (same_value b a j next w) h)

  pub arguments_within : (p at : ℕ) (a : MountArguments) (next : ℕ) → mount_arguments p call at ≡ got a next → PathWithin (length call) a
  unfolding mount_arguments
  arguments_within p =
      gives_cond (eqb p 1) _ _ (gives_path Mount.Mnt (λ path h. h))
      (gives_cond (eqb p 2) _ _ (gives_nothing Mount.Dump tt)
      (gives_cond (eqb p 3) _ _ (gives_path Mount.Umnt (λ path h. h))
      (gives_cond (eqb p 4) _ _ (gives_nothing Mount.Umntall tt)
      (gives_cond (eqb p 5) _ _ (gives_nothing Mount.Export tt)
      (gives_nothing Mount.Null tt)))))

-- ---- where reading stops
inside_path : (k : Part → MountArguments) → Inside (of_path k)
unfolding dirpath
inside_path k =
    inside_then (inside_then (inside_opaque most_path_bytes) (λ path. inside_then inside_end (λ _. built.of_done path))) (λ path. built.of_done (k path))

inside_nothing : (a : MountArguments) → Inside (of_nothing a)
inside_nothing a = inside_then inside_end (λ _. built.of_done a)

pub inside_arguments : (p : ℕ) → Inside (mount_arguments p)
unfolding mount_arguments
inside_arguments p =
    of_cond InsideOf built (eqb p 1) (inside_path Mount.Mnt)
    (of_cond InsideOf built (eqb p 2) (inside_nothing Mount.Dump)
    (of_cond InsideOf built (eqb p 3) (inside_path Mount.Umnt)
    (of_cond InsideOf built (eqb p 4) (inside_nothing Mount.Umntall)
    (of_cond InsideOf built (eqb p 5) (inside_nothing Mount.Export)
    (inside_nothing Mount.Null)))))

-- so with GARBAGE_ARGS the offset is never 0
pub refused_behind : (call : List ℕ) (h : CallHeader) (at p : ℕ) → header call 0 ≡ got (Header.Call h) at → mount_arguments h.procedure call at ≡ bad p
    → 40 ≤ p
refused_behind call h at p e f = omega (arith, header_long call h at e, (inside_arguments h.procedure).ahead call at, ap place_of f)
