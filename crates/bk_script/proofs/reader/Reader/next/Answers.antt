use Rattle.std.proofs.Common.{◌≡◌, List, ℕ, ◌-◌, drop, length, take, subst, sym, ap, ◌∙◌, refl}
use Rattle.bk_script.specs.Front.{IsFirst, IsOver}
use Rattle.bk_script.specs.Script.{Script}
use Rattle.bk_script.proofs.Actions.{none_of}
use Rattle.bk_script.proofs.Fronts.{slice_from}
use Rattle.bk_script.proofs.Standing.{refused_first, refused_over}
use Rattle.bk_script.proofs.reader.Reader.next.Goals as goal

-- the bytes from a place on, as what isn't read yet
unread : (shown held : List ℕ) (start : ℕ) (inside outside : Script) → shown ≡ held → inside.rest ≡ drop start held
    → inside ≡ outside → take (length shown - start) (drop start shown) ≡ outside.rest
unread shown held start inside outside same rest view =
    slice_from shown start ∙ ap (λ (bytes : List ℕ). drop start bytes) same ∙ sym rest ∙ ap (λ (s : Script). s.rest) view

pub returns-in-Over-clause-ok : goal.returns-in-Over-clause-ok
returns-in-Over-clause-ok c =
    let rest = unread _ _ c.self.inside.start _ c.args.self.now c.deref.ensures.value refl c.self.view_is in (
      refused_over c.args.self.now (subst IsOver rest c.in-Over.ensures),
      ap (λ (s : Script). s.offset) c.self.view_is,
      refl,
    )

pub returns-in-Err-Bad-clause-ok : goal.returns-in-Err-Bad-clause-ok
returns-in-Err-Bad-clause-ok c =
    let rest = unread _ _ c.self.inside.start _ c.args.self.now c.deref.ensures.value refl c.self.view_is in
    let first = subst (IsFirst c.in-Line.bytes.now) rest c.in-Line.ensures in (
      refused_first c.args.self.now c.in-Line.bytes.now first
          (none_of _ _ c.in-Err-Bad.field-0 _ c.in-Err-Bad.field-0-is c.in-Err-Bad.ensures),
      ap (λ (s : Script). s.offset) c.self.view_is,
      refl,
    )
