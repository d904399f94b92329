use Rattle.std.proofs.Common.{◌≡◌, ◌∙◌, ℕ, List, Some, ap, length, subst, sym}
use Rattle.bk_base.specs.declared.names.Name.{Name}
use Rattle.bk_disk.specs.Told.{at, range_of}
use Rattle.bk_hint.specs.Verdicts.{IsVerdict}
use Rattle.bk_image.specs.Readings.{hint}
use Rattle.bk_load.proofs.Hinted.{verdict_kept, verdict_none, verdict_taken}
use Rattle.bk_load.proofs.Listings.{whole_range, whole_within}
use Rattle.bk_load.proofs.Places.{within_none}
use Rattle.bk_load.proofs.Tidied.{none_needed}
use Rattle.bk_load.proofs.hints.read_hint.Goals as goal
use Rattle.bk_load.proofs.hints.read_hint.Goals.{then-is_usable+in_ok-learn_rows, else-is_usable}

pub read_whole-requires : goal.read_whole-requires
read_whole-requires g c = λ tells.
    let there = c.requires tells in
    rw c.named.ensures (record {
      within = whole_within (g.D.Disk.shown c.args.disk.now).told.image (hint c.args.file.0) there.0 c.args.size there.1 there.2;
      needed = none_needed (at (g.D.Disk.shown c.args.disk.now).told.image) (hint c.args.file.0) (λ e. cc e);
    })

pub returns-clause-judged : goal.returns-clause-judged
returns-clause-judged g c = λ tells bytes is.
    let image = (g.D.Disk.shown c.args.disk.now).told.image in
    let there = c.requires tells in
    let both : Some there.0 ≡ Some bytes = sym there.1 ∙ is in
    let one : there.0 ≡ bytes = cc both in
    let text : c.deref.result.now ≡ bytes =
    c.deref.ensures.value ∙ c.in_ok-bytes.ensures.bytes tells ∙ ap (λ (n : Name). range_of n 0 c.args.size image) c.named.ensures
    ∙ whole_range image (hint c.args.file.0) bytes c.args.size is (ap length (sym one) ∙ there.2) in
    subst (λ (b : List ℕ). IsVerdict b c.args.len c.judge-verdict.result) text c.judge-verdict.ensures

pub returns-clause-kept : goal.returns-clause-kept
returns-clause-kept g c = elim c.if-is_usable.branch [
  | then-is_usable+in_ok-learn_rows w ↦
      let text : w.deref-then-is_usable.result.now ≡ c.deref.result.now =
      w.deref-then-is_usable.ensures.value ∙ sym c.deref.ensures.value in
      rw w.learned-is
      (verdict_kept c.deref.result.now c.args.file c.args.len c.judge-verdict.result _ _ c.judge-verdict.ensures
      (sym c.is_usable.ensures ∙ w.if-is_usable.true) (rw text at w.in_ok-learn_rows.ensures.kept))
  | else-is_usable w ↦ rw w.learned-is (within_none c.args.file c.args.len c.args.learned.now.keys.entries)
]

pub returns-clause-taken : goal.returns-clause-taken
returns-clause-taken g c = λ tells bytes writes is tells_truth fit.
    let image = (g.D.Disk.shown c.args.disk.now).told.image in
    let there = c.requires tells in
    let both : Some there.0 ≡ Some bytes = sym there.1 ∙ is in
    let one : there.0 ≡ bytes = cc both in
    let items : c.in_ok-bytes.bytes.items ≡ bytes =
    c.in_ok-bytes.ensures.bytes tells ∙ ap (λ (n : Name). range_of n 0 c.args.size image) c.named.ensures
    ∙ whole_range image (hint c.args.file.0) bytes c.args.size is (ap length (sym one) ∙ there.2) in
    let verdict : IsVerdict bytes c.args.len c.judge-verdict.result =
    subst (λ (b : List ℕ). IsVerdict b c.args.len c.judge-verdict.result) (c.deref.ensures.value ∙ items) c.judge-verdict.ensures in
    elim c.if-is_usable.branch [
      | then-is_usable+in_ok-learn_rows w ↦
          let text : w.deref-then-is_usable.result.now ≡ bytes = w.deref-then-is_usable.ensures.value ∙ items in
          rw w.learned-is
          (verdict_taken bytes c.args.file c.args.len c.judge-verdict.result writes _ _ verdict
          (sym c.is_usable.ensures ∙ w.if-is_usable.true) tells_truth fit
          (rw text at w.in_ok-learn_rows.ensures.taken))
      | else-is_usable w ↦
          rw w.learned-is (verdict_none c.args.file c.judge-verdict.result writes _ (sym c.is_usable.ensures ∙ w.if-is_usable.false))
    ]
