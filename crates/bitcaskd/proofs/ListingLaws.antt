-- From a listing of a store that was opened to the whole run.
use Rattle.std.proofs.Common.{◌≡◌, ◌⊎◌, List, [], Bool, refl, sym, subst, inl, inr, IsTrue}
use Rattle.bk_base.specs.declared.histories.Opening.{Opening}
use Rattle.bk_base.specs.declared.statuses.Status.{Status}
use Rattle.bk_base.specs.declared.statuses.Status.TheVariants.{Disk, Sink}
use Rattle.bk_base.specs.declared.writes.Write.{Write}
use Rattle.bk_image.specs.SoundDirectory.{IsSoundDisk}
use Rattle.bk_list.specs.Lists.{ListsAll, ListsNone, ListsFor, Sides, begun_at, sides_of}
use Rattle.bk_list.specs.Lists.{Lists as ListsStore}
use Rattle.bk_list.specs.declared.lists.ListEnd.{ListEnd}
use Rattle.bk_list.specs.declared.lists.ListEnd.TheVariants.{Done as list_done_end, Memory as list_memory_end, Disk as list_disk_end, Sink as list_sink_end, Damaged as list_damaged_end}
use Rattle.bk_session.specs.Following.{Follows}
use Rattle.bk_session.specs.Serving.{Tells, tells_of}
use Rattle.bk_store.specs.Events.{KeepsPast}
use Rattle.bk_store.specs.Shown.{Shown}
use Rattle.bitcaskd.specs.Commands.{MayEnd}
use Rattle.bitcaskd.specs.Listing.{IsListRun, of_list}
use Rattle.bitcaskd.specs.Opening.{Opens}
use Rattle.bitcaskd.specs.Run.{Outside, Telling}
use Rattle.bitcaskd.specs.declared.command.Command.TheVariants.{Open}
use Rattle.bitcaskd.specs.declared.command.Work.TheVariants.{List as list_work}
use Rattle.bitcaskd.proofs.RunLaws.{follows_with, opening_with, with_disk}
use Rattle.bitcaskd.proofs.StoreLaws.{left_with, works_on}

-- the store follows the history with the steps of a listing
follows_listed : (tells : Tells) (old new : Sides) (end : ListEnd) (o : Opening) (lists : ListsStore tells old new end o [] [])
    → Follows tells.disk new.store o lists.steps []
follows_listed tells old new end o lists = go lists.lists where
  go : ListsAll tells old new end (begun_at old o [] [] lists.now) lists.steps
      ⊎ ListsNone tells old new end (begun_at old o [] [] lists.now) lists.steps
      → Follows tells.disk new.store o lists.steps []
  go (inl all) = all.listed.follows
  go (inr none) = none.listed.follows

module _ (tells : Telling) (old new : Outside) (v u : Shown) (end : ListEnd)
    (listed : (known : Bool) → (IsTrue known → IsTrue tells.disk) → ListsFor (tells_of known tells.sink tells.clock)
    (sides_of v old.written old.moments) (sides_of u new.written new.moments) end)
    (past : IsTrue tells.disk → KeepsPast v.files.told u.files.told)
    (whole_same : new.whole ≡ old.whole) (taken_same : new.taken ≡ old.taken) where
  pub lists : (log : List Write) (whole : Bool) → Opens tells.disk old.disk v
      → (IsTrue whole → IsTrue tells.disk × IsSoundDisk old.disk.told log)
      → IsListRun tells old (with_disk u new) (of_list end) log whole
  lists log whole opens known =
      let o = opening_with whole log v in
      let sub : IsTrue whole → IsTrue tells.disk = λ t. (known t).0 in
      let done = listed whole sub o [] [] (follows_with tells.disk whole old.disk log v opens known) in
      let follows =
      follows_listed (tells_of whole tells.sink tells.clock) (sides_of v old.written old.moments)
      (sides_of u new.written new.moments) end o done in
      record {
        opening = o;
        opened = v;
        left = u;
        works = works_on tells old new v u log whole opens known past whole_same taken_same;
        end = end;
        is_status = refl;
        lists = done;
        leaves = λ t. left_with u o done.steps [] (follows.stands t);
      }

-- ---- the status

pub list_disk : (end : ListEnd) → of_list end ≡ Disk → end ≡ list_disk_end
list_disk list_disk_end is = refl
list_disk end is = absurd (cc is)

pub list_sink : (end : ListEnd) → of_list end ≡ Sink → end ≡ list_sink_end
list_sink list_sink_end is = refl
list_sink end is = absurd (cc is)

-- a run of `list` ends so
pub list_ends : (end : ListEnd) (status : Status) → status ≡ of_list end → MayEnd (Open list_work) status
list_ends end status is = subst (MayEnd (Open list_work)) (sym is) (go end) where
  go : (e : ListEnd) → MayEnd (Open list_work) (of_list e)
  go list_done_end = tt
  go list_memory_end = tt
  go list_disk_end = tt
  go list_sink_end = tt
  go list_damaged_end = tt
