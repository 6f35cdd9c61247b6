-- What the calls of MOUNT and their replies alone tell: the pairs of hosts and paths that are mounted.
use Rattle.std.specs.Prelude.{ℕ, List, [], ◌∷◌, Bool, false, ◌&&◌, ◌||◌, cond, eqb, leb, length}
use Rattle.std.proofs.Math.Option.{Option, some, none}
use Rattle.kinds.specs.Reading.{Read, got, bad}
use Rattle.kinds.specs.declared.call.CallHeader.{CallHeader}
use Rattle.kinds.specs.declared.call.Header.{Header}
use Rattle.kinds.specs.declared.call.Header.TheVariants as Header
use Rattle.kinds.specs.declared.mount.MountArguments.{MountArguments}
use Rattle.kinds.specs.declared.mount.MountArguments.TheVariants as Mount
use Rattle.spec.specs.Bytes.{be_at, same_bytes}
use Rattle.spec.specs.Checked.{Checked, refused, passed}
use Rattle.spec.specs.Header.{header}
use Rattle.spec.specs.Procedures.{cut}
use Rattle.spec.specs.Rpc.{judge}
use Rattle.history.specs.Book.{is_ok}
use Rattle.mount_spec.specs.Arguments.{mount_arguments}
use Rattle.mount_spec.specs.Serve.{mount3}
use Rattle.mount_spec.specs.Table.{Row}

-- the pairs that are told
abbrev pub Pairs : Type 0
Pairs = List Row

abbrev pub pair_of : ℕ → List ℕ → Row
pair_of host path = record { host = host; path = path }

abbrev pub is_pair : ℕ → List ℕ → Row → Bool
is_pair host path v = eqb v.host host && same_bytes v.path path

unfoldable pub is_told : ℕ → List ℕ → Pairs → Bool
is_told host path [] = false
is_told host path (v ∷ vs) = is_pair host path v || is_told host path vs

-- MNT: "A pair already there isn't added again"
unfoldable pub add_told : ℕ → List ℕ → Pairs → Pairs
add_told host path m = cond (is_told host path m) m (pair_of host path ∷ m)

-- UMNT: the pair is struck
unfoldable pub strike_pair : ℕ → List ℕ → Pairs → Pairs
strike_pair host path [] = []
strike_pair host path (v ∷ vs) = cond (is_pair host path v) (strike_pair host path vs) (v ∷ strike_pair host path vs)

-- UMNTALL: all pairs of the host are struck
unfoldable pub strike_host : ℕ → Pairs → Pairs
strike_host host [] = []
strike_host host (v ∷ vs) = cond (eqb v.host host) (strike_host host vs) (v ∷ strike_host host vs)

-- ---- what a call asks, and what a reply says, by their bytes alone
abbrev pub mount_got : Read MountArguments → Option MountArguments
mount_got (bad p) = none
mount_got (got a next) = some a

abbrev pub mount_judged : List ℕ → CallHeader → ℕ → Checked (Unit {0}) → Option MountArguments
mount_judged call h at (refused stat) = none
mount_judged call h at (passed _) = mount_got (mount_arguments h.procedure call at)

abbrev pub mount_headed : List ℕ → Read Header → Option MountArguments
mount_headed call (bad p) = none
mount_headed call (got (Header.OtherVersion xid) at) = none
mount_headed call (got (Header.Call h) at) = mount_judged call h at (judge mount3 h)

-- the arguments of a call whose header is complete and names one of the procedures, and which can be read
unfoldable pub asked_mount : List ℕ → Option MountArguments
asked_mount call = mount_headed call (header call 0)

-- an accepted reply with accept_stat SUCCESS, 0; there is none where the call was refused
unfoldable pub is_answered : List ℕ → Bool
is_answered reply = leb 24 (length reply) && eqb (be_at reply 20 4) 0

-- what a call and its reply tell: "added by OK MNTs, struck by UMNT and UMNTALL"
unfoldable pub tell_asked : ℕ → List ℕ → List ℕ → Pairs → Option MountArguments → Pairs
tell_asked host call reply m none = m
tell_asked host call reply m (some (Mount.Mnt path)) = cond (is_ok reply) (add_told host (cut call path) m) m
tell_asked host call reply m (some (Mount.Umnt path)) = cond (is_answered reply) (strike_pair host (cut call path) m) m
tell_asked host call reply m (some Mount.Umntall) = cond (is_answered reply) (strike_host host m) m
tell_asked host call reply m (some Mount.Null) = m
tell_asked host call reply m (some Mount.Dump) = m
tell_asked host call reply m (some Mount.Export) = m

unfoldable pub tell : ℕ → List ℕ → List ℕ → Pairs → Pairs
tell host call reply m = tell_asked host call reply m (asked_mount call)
