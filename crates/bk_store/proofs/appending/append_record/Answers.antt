-- Each exit of an append: what it leaves, and why it was taken.
use Rattle.std.proofs.Common.{◌≡◌, ◌∙◌, ◌≤◌, ap, arith, length, refl, sym}
use Rattle.std.proofs.lemmas.Bool.{true≢false}
use Rattle.std.proofs.lemmas.Result.{err_from_is_err_and}
use Rattle.bk_files.specs.Catalog.{Known, due_of, torn_of}
use Rattle.bk_files.specs.Files.{is_due}
use Rattle.bk_store.specs.declared.errors.PutError.TheVariants.{Memory}
use Rattle.bk_store.proofs.AppendExits.{due_still, file_is, is_appended, mended_whole, not_appended, not_ready, not_repaired, not_rolled, rose_since, text_short, why_no_roll}
use Rattle.bk_store.proofs.Pasts.{goes_passes, goes_repaired, goes_still, goes_then, past_half_repaired}
use Rattle.bk_store.proofs.appending.append_record.Goals as goal

pub overflow_cast-size : goal.overflow_cast-size
overflow_cast-size g c = omega (arith, text_short c.args.text.now c.requires.text)

pub make_place-requires-clause-whole : goal.make_place-requires-clause-whole
make_place-requires-clause-whole g c =
    ap (λ (k : Known). torn_of k.active) c.in_ok-repair.ensures.ok.catalog ∙ mended_whole c.args.files.now.catalog.active

pub returns-in_err-repair-clause-err : goal.returns-in_err-repair-clause-err
returns-in_err-repair-clause-err g c =
    let p = err_from_is_err_and c.from_residual.result c.from_residual.ensures.1 in
    rw (p.1, p.2)
    (record {
      why = c.in_err-repair.ensures.cause.failed;
      nothing = λ tells. not_repaired g.D.Disk.tells c.args.text.now c.args.files.now c.repair.new.self tells
          c.in_err-repair.ensures.err
          (record {
            consistent = c.in_err-repair.ensures.consistent tells;
            totals = c.in_err-repair.ensures.scratch tells;
            synced = c.in_err-repair.ensures.synced tells;
          });
    })

pub returns-in_err-rolled-clause-err : goal.returns-in_err-rolled-clause-err
returns-in_err-rolled-clause-err g c =
    let p = err_from_is_err_and c.from_residual-in_err-rolled.result c.from_residual-in_err-rolled.ensures.1 in
    rw (p.1, p.2)
    (record {
      why = why_no_roll g.D.Disk.tells c.args.text.now _ c.args.files.now c.repair.new.self c.make_place.new.files _
          refl c.in_ok-repair.ensures.ok.catalog c.in_ok-repair.ensures.cause.later c.in_err-rolled.ensures.err;
      nothing = λ tells. not_rolled g.D.Disk.tells _ c.args.text.now c.args.files.now c.repair.new.self c.make_place.new.files tells
          c.in_ok-repair.ensures.ok
          (record {
            consistent = c.in_ok-repair.ensures.consistent tells;
            totals = c.in_ok-repair.ensures.scratch tells;
            synced = c.in_ok-repair.ensures.synced tells;
          })
          (c.in_err-rolled.ensures.err.half tells) c.in_err-rolled.ensures.err.catalog (c.in_err-rolled.ensures.facts tells);
    })

pub returns-in_err-ready-clause-err : goal.returns-in_err-ready-clause-err
returns-in_err-ready-clause-err g c =
    let p = err_from_is_err_and c.from_residual-in_err-ready.result c.from_residual-in_err-ready.ensures.1 in
    rw (p.1, p.2)
    (record {
      why = λ not_due room.
          let still : is_due (length c.args.text.now) c.repair.new.self ≡ is_due (length c.args.text.now) c.args.files.now =
          due_still (length c.args.text.now) c.args.files.now c.repair.new.self c.in_ok-repair.ensures.ok.catalog in
          let more = c.in_ok-rolled.ensures.ok.room (still ∙ not_due) in
          let enough : length c.args.text.now ≤ c.make_place.new.files.room =
          omega (arith, room, more, c.in_ok-repair.ensures.rooms) in
          absurd (true≢false (sym (c.in_err-ready.ensures.enough enough)));
      nothing = λ tells. not_ready g.D.Disk.tells c.in_ok-rolled.rolled Memory c.args.text.now c.args.files.now c.repair.new.self
          c.make_place.new.files c.ready.new.self tells c.in_ok-repair.ensures.ok
          (record {
            consistent = c.in_ok-repair.ensures.consistent tells;
            totals = c.in_ok-repair.ensures.scratch tells;
            synced = c.in_ok-repair.ensures.synced tells;
          })
          c.in_ok-rolled.ensures.ok.moved (c.in_ok-rolled.ensures.facts tells) (c.in_err-ready.ensures.told tells)
          c.in_err-ready.ensures.catalog (c.in_err-ready.ensures.consistent tells);
    })

pub append-requires-clause-whole : goal.append-requires-clause-whole
append-requires-clause-whole g c =
    ap (λ (k : Known). torn_of k.active) c.in_ok-ready.ensures.catalog ∙ c.in_ok-rolled.ensures.ok.whole

pub append-requires-clause-due : goal.append-requires-clause-due
append-requires-clause-due g c =
    ap (λ (k : Known). due_of (length c.args.text.now) k.max_file k.active) c.in_ok-ready.ensures.catalog ∙ c.in_ok-rolled.ensures.ok.fits

pub append-requires-clause-room : goal.append-requires-clause-room
append-requires-clause-room g c =
    let room = c.in_ok-ready.ensures.room c.in_ok-rolled.ensures.ok.fits in omega (arith, room)

pub returns-in_err-at-clause-err : goal.returns-in_err-at-clause-err
returns-in_err-at-clause-err g c =
    let p = err_from_is_err_and c.from_residual-in_err-at.result c.from_residual-in_err-at.ensures.1 in
    rw (p.1, p.2)
    (record {
      why = rose_since c.args.files.now.faults c.ready.new.self.faults c.append.new.self.faults
          (omega (arith, c.in_ok-repair.ensures.cause.later, c.in_ok-rolled.ensures.rest.later, c.in_ok-ready.ensures.faults))
          c.in_err-at.ensures.cause.failed;
      nothing = λ tells. let part = c.in_err-at.ensures.part tells in
          not_appended g.D.Disk.tells c.in_ok-rolled.rolled c.args.text.now c.args.files.now c.repair.new.self
          c.make_place.new.files c.ready.new.self c.append.new.self part.0 tells c.in_ok-repair.ensures.ok
          (record {
            consistent = c.in_ok-repair.ensures.consistent tells;
            totals = c.in_ok-repair.ensures.scratch tells;
            synced = c.in_ok-repair.ensures.synced tells;
          })
          c.in_ok-rolled.ensures.ok.moved (c.in_ok-rolled.ensures.facts tells) (c.in_ok-ready.ensures.told tells)
          c.in_ok-ready.ensures.catalog (c.in_ok-ready.ensures.consistent tells)
          (ap (λ (k : Known). due_of (length c.args.text.now) k.max_file k.active) c.in_ok-ready.ensures.catalog
          ∙ c.in_ok-rolled.ensures.ok.fits)
          c.in_err-at.ensures.err part.1
          (record {
            consistent = c.in_err-at.ensures.consistent tells;
            totals = c.in_err-at.ensures.scratch tells;
            synced = c.in_err-at.ensures.synced tells;
          });
    })

pub returns-clause-ok : goal.returns-clause-ok
returns-clause-ok g c =
    let still : is_due (length c.args.text.now) c.repair.new.self ≡ is_due (length c.args.text.now) c.args.files.now =
    due_still (length c.args.text.now) c.args.files.now c.repair.new.self c.in_ok-repair.ensures.ok.catalog in
    record {
      rolled = c.in_ok-rolled.ensures.ok.is ∙ still;
      file_left = λ due. let left = c.in_ok-rolled.ensures.ok.file_left (still ∙ due) in
          omega (arith, left, ap (λ (k : Known). k.last) c.in_ok-repair.ensures.ok.catalog);
      appended = λ tells. is_appended g.D.Disk.tells c.in_ok-rolled.rolled c.args.text.now _ c.args.files.now c.repair.new.self
          c.make_place.new.files c.ready.new.self c.append.new.self tells c.in_ok-repair.ensures.ok
          (record {
            consistent = c.in_ok-repair.ensures.consistent tells;
            totals = c.in_ok-repair.ensures.scratch tells;
            synced = c.in_ok-repair.ensures.synced tells;
          })
          c.in_ok-rolled.ensures.ok.moved (c.in_ok-rolled.ensures.facts tells) (c.in_ok-ready.ensures.told tells)
          c.in_ok-ready.ensures.catalog (c.in_ok-ready.ensures.consistent tells)
          (ap (λ (k : Known). due_of (length c.args.text.now) k.max_file k.active) c.in_ok-ready.ensures.catalog
          ∙ c.in_ok-rolled.ensures.ok.fits)
          c.in_ok-at.ensures.ok (c.in_ok-at.ensures.appended tells) c.in_ok-at.ensures.place
          (file_is (length c.args.text.now) c.active_file-file.result.0 c.ready.new.self c.append.new.self c.in_ok-at.ensures.ok
          c.active_file-file.ensures)
          (record {
            consistent = c.in_ok-at.ensures.consistent tells;
            totals = c.in_ok-at.ensures.scratch tells;
            synced = c.in_ok-at.ensures.synced tells;
          });
    }

pub returns-in_err-repair-clause-rest : goal.returns-in_err-repair-clause-rest
returns-in_err-repair-clause-rest g c = record {
  consistent = c.in_err-repair.ensures.consistent;
  past = λ tells. past_half_repaired c.args.files.now.catalog.active c.args.files.now.told c.repair.new.self.told
      (c.in_err-repair.ensures.err.told tells);
  later = c.in_err-repair.ensures.cause.later;
  views = c.in_err-repair.ensures.views;
  outs = c.in_err-repair.ensures.outs;
  limit = ap (λ (k : Known). k.max_file) c.in_err-repair.ensures.err.catalog;
}

pub returns-in_err-rolled-clause-rest : goal.returns-in_err-rolled-clause-rest
returns-in_err-rolled-clause-rest g c =
    goes_then _ _ c.repair.new.self _
    (goes_repaired _ _ _ c.in_ok-repair.ensures.ok c.in_ok-repair.ensures.consistent c.in_ok-repair.ensures.cause.later
    c.in_ok-repair.ensures.views c.in_ok-repair.ensures.outs)
    c.in_err-rolled.ensures.rest

pub returns-in_err-ready-clause-rest : goal.returns-in_err-ready-clause-rest
returns-in_err-ready-clause-rest g c =
    goes_then _ _ c.repair.new.self _
    (goes_repaired _ _ _ c.in_ok-repair.ensures.ok c.in_ok-repair.ensures.consistent c.in_ok-repair.ensures.cause.later
    c.in_ok-repair.ensures.views c.in_ok-repair.ensures.outs)
    (goes_then _ _ c.make_place.new.files _ c.in_ok-rolled.ensures.rest
    (goes_still _ _ _ c.in_err-ready.ensures.consistent c.in_err-ready.ensures.told
    (omega (arith, c.in_err-ready.ensures.faults)) c.in_err-ready.ensures.views c.in_err-ready.ensures.outs
    c.in_err-ready.ensures.catalog))

pub returns-in_err-at-clause-rest : goal.returns-in_err-at-clause-rest
returns-in_err-at-clause-rest g c =
    goes_then _ _ c.repair.new.self _
    (goes_repaired _ _ _ c.in_ok-repair.ensures.ok c.in_ok-repair.ensures.consistent c.in_ok-repair.ensures.cause.later
    c.in_ok-repair.ensures.views c.in_ok-repair.ensures.outs)
    (goes_then _ _ c.make_place.new.files _ c.in_ok-rolled.ensures.rest
    (goes_then _ _ c.ready.new.self _
    (goes_still _ _ _ c.in_ok-ready.ensures.consistent c.in_ok-ready.ensures.told
    (omega (arith, c.in_ok-ready.ensures.faults)) c.in_ok-ready.ensures.views c.in_ok-ready.ensures.outs
    c.in_ok-ready.ensures.catalog)
    (goes_passes _ _ _ c.in_err-at.ensures.consistent (λ tells. (c.in_err-at.ensures.part tells).1.passes)
    c.in_err-at.ensures.cause.later c.in_err-at.ensures.views c.in_err-at.ensures.outs
    (ap (λ (k : Known). k.max_file) c.in_err-at.ensures.err))))

pub returns-clause-rest : goal.returns-clause-rest
returns-clause-rest g c =
    goes_then _ _ c.repair.new.self _
    (goes_repaired _ _ _ c.in_ok-repair.ensures.ok c.in_ok-repair.ensures.consistent c.in_ok-repair.ensures.cause.later
    c.in_ok-repair.ensures.views c.in_ok-repair.ensures.outs)
    (goes_then _ _ c.make_place.new.files _ c.in_ok-rolled.ensures.rest
    (goes_then _ _ c.ready.new.self _
    (goes_still _ _ _ c.in_ok-ready.ensures.consistent c.in_ok-ready.ensures.told
    (omega (arith, c.in_ok-ready.ensures.faults)) c.in_ok-ready.ensures.views c.in_ok-ready.ensures.outs
    c.in_ok-ready.ensures.catalog)
    (goes_passes _ _ _ c.in_ok-at.ensures.consistent (λ tells. (c.in_ok-at.ensures.appended tells).passes)
    c.in_ok-at.ensures.cause.later c.in_ok-at.ensures.views c.in_ok-at.ensures.outs c.in_ok-at.ensures.ok.max_file)))
