-- What a put, a delete and a reap answer.
use Rattle.std.specs.Prelude.{◌≡◌, ℕ, ◌+◌, ◌<◌, ◌≤◌, ◌&&◌, not, Bool, true, false, Option, None, Some}
use Rattle.bk_base.specs.declared.calls.Answer.{Answer}
use Rattle.bk_base.specs.declared.calls.Answer.TheVariants.{Nothing, Numbered}
use Rattle.bk_base.specs.declared.calls.Entry.{Entry}
use Rattle.bk_base.specs.declared.limits.TheConstants.{LAST_FILE, LAST_SEQ}
use Rattle.bk_base.specs.declared.writes.Version.{Version}
use Rattle.bk_base.specs.declared.writes.Write.{Write}
use Rattle.bk_disk.specs.Causes.{Rose}
use Rattle.bk_files.specs.Files.{is_due, last_of}
use Rattle.bk_laws.specs.Record.{size_of}
use Rattle.bk_store.specs.declared.errors.PutError.{PutError}
use Rattle.bk_store.specs.declared.errors.PutError.TheVariants.{FullSeq, FullFiles, Disk, Memory}
use Rattle.bk_store.specs.declared.puts.Stored.{Stored}
use Rattle.bk_store.specs.Appends.{HasReserved}
use Rattle.bk_store.specs.Events.{GoesOn, Keeps}
use Rattle.bk_store.specs.Loans.{is_live, is_put}
use Rattle.bk_store.specs.Shown.{Shown}

-- what no event that writes changes over any disk, and that no count falls
pub record KeepsRest (v u : Shown) : Type 0 where
  pub settings : u.settings ≡ v.settings
  pub slots : u.keys.slots ≡ v.keys.slots
  pub later : v.files.faults ≤ u.files.faults
  pub views : u.files.fallible_views ≡ v.files.fallible_views
  pub outs : u.files.fallible_outs ≡ v.files.fallible_outs
  pub limit : u.files.catalog.max_file ≡ v.files.catalog.max_file

-- The write was made: a seq and, where it needs a new file, a file number were left for it.
pub record IsWritten (w : Write) (v u : Shown) (s : Stored) : Type 0 where
  pub seq : s.seq.0 ≡ v.seq + 1
  pub next : u.seq ≡ v.seq + 1
  pub rolled : s.rolled ≡ is_due (size_of w) v.files
  pub seq_left : v.seq < LAST_SEQ
  pub file_left : is_due (size_of w) v.files ≡ true → last_of v.files < LAST_FILE

-- Why a write was refused. `FullSeq` is tested first.
abbrev pub IsWriteError : Write → Shown → Shown → PutError → Type 0
IsWriteError w v u FullSeq = (LAST_SEQ ≤ v.seq) × (u ≡ v)
IsWriteError w v u FullFiles =
    (v.seq < LAST_SEQ) × (u.seq ≡ v.seq) × (is_due (size_of w) v.files ≡ true) × (LAST_FILE ≤ last_of v.files)
IsWriteError w v u Disk = (v.seq < LAST_SEQ) × (u.seq ≡ v.seq) × Rose v.files.faults u.files.faults
IsWriteError w v u Memory = (v.seq < LAST_SEQ) × (u.seq ≡ v.seq)

-- what the write needs is there already, so that memory can't refuse it
abbrev pub IsReserved : Write → Shown → Type 0
IsReserved w v = HasReserved w v.files v.keys v.buffer

-- the newest version is a put that is no longer live
abbrev pub is_expired : ℕ → ℕ → Option Version → Bool
is_expired ttl now v = is_put v && not (is_live ttl now v)

-- A tombstone is written exactly where it is due, and otherwise nothing is done.
abbrev pub IsBuried : Bool → Write → Shown → Shown → Option Stored → Type 0
IsBuried true w v u (Some s) = IsWritten w v u s
IsBuried true w v u None = ⊥
IsBuried false w v u (Some s) = ⊥
IsBuried false w v u None = u ≡ v

abbrev pub bury_reply : Option Stored → Answer
bury_reply None = Nothing
bury_reply (Some s) = Numbered s.seq

-- the history has one step more; where nothing was written, what was tried stays so
abbrev pub Buries : Bool → Option Stored → Entry → Shown → Shown → Type 0
Buries tells None e v u = Keeps tells e v u
Buries tells (Some s) e v u = GoesOn tells e v u
