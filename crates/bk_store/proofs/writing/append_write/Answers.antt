-- Each exit of a write.
use Rattle.std.proofs.Common.{◌≡◌, ◌∙◌, ap, refl, subst, sym, ◌++◌, List, ℕ}
use Rattle.std.proofs.lemmas.Result.{err_from_is_err_and}
use Rattle.std.specs.Vec.{vec_capacity}
use Rattle.bk_keydir.specs.Keydir.{IsNewer}
use Rattle.bk_keydir.specs.Keydir.{Shown as KeydirShown}
use Rattle.bk_base.specs.declared.writes.Version.{Version}
use Rattle.bk_laws.specs.Record.{record_of}
use Rattle.bk_store.specs.declared.errors.PutError.TheVariants.{Memory}
use Rattle.bk_store.proofs.WriteExits.{crash_down, crash_not, crash_nothing, not_for_memory, still_newer, writes_down, writes_not, writes_nothing}
use Rattle.bk_store.proofs.Pasts.{goes_counted, goes_then}
use Rattle.bk_store.proofs.writing.append_write.Goals as goal

pub returns-in_err-encode-clause-err : goal.returns-in_err-encode-clause-err
returns-in_err-encode-clause-err g c =
    let p = err_from_is_err_and c.from_residual.result c.from_residual.ensures.1 in
    rw (p.1, p.2)
    (writes_nothing g.D.Disk.tells c.args.write c.args.files.now c.args.keydir.now c.args.keydir.now refl refl)

pub returns-in_err-encode-clause-crash : goal.returns-in_err-encode-clause-crash
returns-in_err-encode-clause-crash g c = λ tells. crash_nothing c.args.write c.args.files.now

pub returns-in_err-ready-clause-err : goal.returns-in_err-ready-clause-err
returns-in_err-ready-clause-err g c =
    let p = err_from_is_err_and c.from_residual-in_err-ready.result c.from_residual-in_err-ready.ensures.1 in
    rw (p.1, p.2)
    (writes_nothing g.D.Disk.tells c.args.write c.args.files.now c.args.keydir.now c.ready.new.self
    (ap (λ (k : KeydirShown). k.slots) c.in_err-ready.ensures.same)
    (ap (λ (k : KeydirShown). k.entries) c.in_err-ready.ensures.same))

pub returns-in_err-ready-clause-crash : goal.returns-in_err-ready-clause-crash
returns-in_err-ready-clause-crash g c = λ tells. crash_nothing c.args.write c.args.files.now

pub append_record-requires-clause-text : goal.append_record-requires-clause-text
append_record-requires-clause-text g c = (
  c.args.write,
  c.in_ok-encode.ensures.writable,
  c.as_slice.ensures.value ∙ c.in_ok-encode.ensures.ok ∙ ap (λ (l : List ℕ). l ++ record_of c.args.write) c.clear.ensures.items,
)

pub returns-in_err-place-clause-err : goal.returns-in_err-place-clause-err
returns-in_err-place-clause-err g c =
    let p = err_from_is_err_and c.from_residual-in_err-place.result c.from_residual-in_err-place.ensures.1 in
    rw (p.1, p.2)
    (writes_not g.D.Disk.tells c.args.write c.as_slice.result.now c.args.files.now c.args.keydir.now c.ready.new.self
    c.in_ok-encode.ensures.writable
    (c.as_slice.ensures.value ∙ c.in_ok-encode.ensures.ok ∙ ap (λ (l : List ℕ). l ++ record_of c.args.write) c.clear.ensures.items)
    (ap (λ (k : KeydirShown). k.slots) c.in_ok-ready.ensures.same)
    (ap (λ (k : KeydirShown). k.entries) c.in_ok-ready.ensures.same) c.append_record.new.files _ c.in_err-place.ensures.err)

pub returns-in_err-place-clause-memory : goal.returns-in_err-place-clause-memory
returns-in_err-place-clause-memory g c =
    let p = err_from_is_err_and c.from_residual-in_err-place.result c.from_residual-in_err-place.ensures.1 in
    rw (p.1, p.2)
    (λ reserved is.
    let memory : c.in_err-place.field-0.0 ≡ Memory = cc is in
    not_for_memory g.D.Disk.tells c.args.write c.as_slice.result.now c.args.files.now c.args.keydir.now c.ready.new.self
    c.in_ok-encode.ensures.writable
    (c.as_slice.ensures.value ∙ c.in_ok-encode.ensures.ok ∙ ap (λ (l : List ℕ). l ++ record_of c.args.write) c.clear.ensures.items)
    (ap (λ (k : KeydirShown). k.slots) c.in_ok-ready.ensures.same)
    (ap (λ (k : KeydirShown). k.entries) c.in_ok-ready.ensures.same) c.append_record.new.files _
    (vec_capacity c.args.buffer.now) c.in_err-place.ensures.err memory reserved)

pub returns-in_err-place-clause-crash : goal.returns-in_err-place-clause-crash
returns-in_err-place-clause-crash g c = λ tells.
    crash_not g.D.Disk.tells c.args.write c.as_slice.result.now c.args.files.now c.args.keydir.now c.ready.new.self
    c.in_ok-encode.ensures.writable
    (c.as_slice.ensures.value ∙ c.in_ok-encode.ensures.ok ∙ ap (λ (l : List ℕ). l ++ record_of c.args.write) c.clear.ensures.items)
    (ap (λ (k : KeydirShown). k.slots) c.in_ok-ready.ensures.same)
    (ap (λ (k : KeydirShown). k.entries) c.in_ok-ready.ensures.same) c.append_record.new.files _ tells c.in_err-place.ensures.err

pub version_of-version-requires-clause-text : goal.version_of-version-requires-clause-text
version_of-version-requires-clause-text g c =
    c.as_slice-2.ensures.value ∙ c.in_ok-encode.ensures.ok ∙ ap (λ (l : List ℕ). l ++ record_of c.args.write) c.clear.ensures.items

pub put_version-requires-clause-newer : goal.put_version-requires-clause-newer
put_version-requires-clause-newer g c =
    subst (λ (v : Version). IsNewer v.seq.0 c.args.write.key c.ready.new.self) (sym c.version_of-version.ensures)
    (still_newer c.args.write.seq.0 c.args.write.key c.args.keydir.now c.ready.new.self
    (ap (λ (k : KeydirShown). k.slots) c.in_ok-ready.ensures.same)
    (ap (λ (k : KeydirShown). k.entries) c.in_ok-ready.ensures.same) c.requires.newer)

pub returns-clause-ok : goal.returns-clause-ok
returns-clause-ok g c =
    writes_down g.D.Disk.tells c.args.write c.as_slice.result.now c.args.files.now c.args.keydir.now c.ready.new.self
    c.in_ok-encode.ensures.writable
    (c.as_slice.ensures.value ∙ c.in_ok-encode.ensures.ok ∙ ap (λ (l : List ℕ). l ++ record_of c.args.write) c.clear.ensures.items)
    (ap (λ (k : KeydirShown). k.slots) c.in_ok-ready.ensures.same)
    (ap (λ (k : KeydirShown). k.entries) c.in_ok-ready.ensures.same) c.in_ok-place.place c.version_of-version.result
    c.append_record.new.files c.put_version.new.files c.put_version.new.keydir c.in_ok-place.ensures.ok
    c.version_of-version.ensures c.put_version.ensures.entries c.put_version.ensures.folds c.put_version.ensures.counts
    c.put_version.ensures.alone

pub returns-clause-slots : goal.returns-clause-slots
returns-clause-slots g c =
    c.put_version.ensures.folds.slots ∙ ap (λ (k : KeydirShown). k.slots) c.in_ok-ready.ensures.same

pub returns-clause-crash : goal.returns-clause-crash
returns-clause-crash g c = λ tells.
    crash_down g.D.Disk.tells c.args.write c.as_slice.result.now c.args.files.now c.args.keydir.now c.ready.new.self
    c.in_ok-encode.ensures.writable
    (c.as_slice.ensures.value ∙ c.in_ok-encode.ensures.ok ∙ ap (λ (l : List ℕ). l ++ record_of c.args.write) c.clear.ensures.items)
    (ap (λ (k : KeydirShown). k.slots) c.in_ok-ready.ensures.same)
    (ap (λ (k : KeydirShown). k.entries) c.in_ok-ready.ensures.same) c.in_ok-place.place c.append_record.new.files
    c.put_version.new.files tells c.in_ok-place.ensures.ok c.put_version.ensures.alone

pub returns-clause-rest : goal.returns-clause-rest
returns-clause-rest g c =
    goes_then _ _ c.append_record.new.files _ c.in_ok-place.ensures.rest
    (goes_counted _ _ _ c.in_ok-place.ensures.rest.consistent c.put_version.ensures.alone)
