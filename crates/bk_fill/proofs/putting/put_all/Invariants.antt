use Rattle.std.proofs.Common.{Bool, ◌≡◌, ◌*◌, ◌≤◌, IsTrue, Ok}
use Rattle.bk_fill.proofs.putting.put_all.Given as goal
use Rattle.bk_fill.specs.Putting.{HasPutFor}
use Rattle.bk_store.specs.Events.{KeepsPast}

abbrev pub invariant-loop-number : goal.invariant-loop-number
invariant-loop-number g l = record {
  puts : (known : Bool) → (IsTrue known → IsTrue g.D.Disk.tells)
      → HasPutFor known l.now l.number (Ok l.bytes) l.initial.store l.store;
  few : l.bytes ≤ 128 * l.number;
  past : IsTrue g.D.Disk.tells → KeepsPast l.initial.store.files.told l.store.files.told;
  later : l.initial.store.files.faults ≤ l.store.files.faults;
  views : l.store.files.fallible_views ≡ l.initial.store.files.fallible_views;
}
