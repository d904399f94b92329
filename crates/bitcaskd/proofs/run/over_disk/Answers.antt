use Rattle.std.proofs.Common.{inl, inr, refl}
use Rattle.bk_base.specs.declared.statuses.Status.TheVariants.{Disk, Source, Sink}
use Rattle.bk_disk.specs.Shown.{DiskShown}
use Rattle.bitcaskd.proofs.OpeningLaws.{caused, keeps_log, refused_ends, rose_in_run, views_in_run}
use Rattle.bitcaskd.proofs.run.over_disk.Goals as goal

pub returns-in-Ok-clause-ran : goal.returns-in-Ok-clause-ran
returns-in-Ok-clause-ran g c =
    let was : DiskShown = g.D.Disk.shown c.args.disk in
    inr (c.over_store.ensures.ran was c.in-Ok.ensures.opens)

pub returns-in-Ok-clause-disk : goal.returns-in-Ok-clause-disk
returns-in-Ok-clause-disk g c = λ is.
    let was : DiskShown = g.D.Disk.shown c.args.disk in
    elim (c.over_store.ensures.disk is) [
      | inl rose ↦ inl (rose_in_run g.D.Disk.tells was c.in-Ok.store _ c.in-Ok.ensures.opens rose)
      | inr rose ↦ inr (views_in_run g.D.Disk.tells was c.in-Ok.store _ c.in-Ok.ensures.opens rose)
    ]

pub returns-in-Err-clause-ran : goal.returns-in-Err-clause-ran
returns-in-Err-clause-ran g c = inl (record {
  is_refused = c.in-Err.ensures.refused;
  keeps = λ t log sound. keeps_log (g.D.Disk.shown c.args.disk).told (g.D.Disk.shown c.in-Err.disk).told log
      (c.in-Err.ensures.refused.came.goes t) (g.met.D.Disk.well c.in-Err.disk t) sound;
  whole = refl;
  taken = refl;
  written = refl;
  sink_faults = refl;
  moments = refl;
})

pub returns-in-Err-clause-ends : goal.returns-in-Err-clause-ends
returns-in-Err-clause-ends g c = refused_ends _ _ _ c.in-Err.status c.in-Err.ensures.refused c.args.work

pub returns-in-Err-clause-disk : goal.returns-in-Err-clause-disk
returns-in-Err-clause-disk g c = λ is. caused _ _ _ c.in-Err.status Disk c.in-Err.ensures.refused is

pub returns-in-Err-clause-source : goal.returns-in-Err-clause-source
returns-in-Err-clause-source g c = λ is. absurd (caused _ _ _ c.in-Err.status Source c.in-Err.ensures.refused is)

pub returns-in-Err-clause-sink : goal.returns-in-Err-clause-sink
returns-in-Err-clause-sink g c = λ is. absurd (caused _ _ _ c.in-Err.status Sink c.in-Err.ensures.refused is)
