-- What the sink took of the line.
use Rattle.std.proofs.Common.{◌≡◌, ◌∙◌, ℕ, ◌<◌, Bool, true, false, List, [], ◌∷◌, ◌++◌, length}
use Rattle.std.proofs.Common.{refl, sym, ap, arith, inl, inr, IsTrue}
use Rattle.std.proofs.lemmas.List.{append-nil, length-append}
use Rattle.bk_disk.specs.Streams.{LeftOver, Wrote}
use Rattle.bk_disk.specs.Told.{untold}
use Rattle.bk_fill.specs.declared.ends.FillEnd.{FillEnd}
use Rattle.bk_fill.specs.declared.ends.FillEnd.TheVariants.{Sink, Memory}
use Rattle.bk_fill.specs.Filling.{HasWritten}
use Rattle.bk_laws.specs.Wire.{line}

pub line_some : (text : List ℕ) → 0 < length (line text)
line_some text = omega (arith, length-append text (10 ∷ []))

pub nothing_due : (tells : Bool) (end : FillEnd) (old : List ℕ) → HasWritten tells [] end end old old
nothing_due tells end old = record {
  output = [];
  writes = inl (refl, refl);
  wrote = λ t. sym (append-nil old);
}

pub written_whole : (tells : Bool) (text bytes : List ℕ) (end : FillEnd) (old new : List ℕ) → bytes ≡ text
    → (IsTrue tells → Wrote old new bytes) → HasWritten tells text end end old new
written_whole tells text bytes end old new is wrote = record {
  output = text;
  writes = inl (refl, refl);
  wrote = λ t. wrote t ∙ ap (λ (l : List ℕ). old ++ l) is;
}

pub written_part : (tells : Bool) (text bytes : List ℕ) (end : FillEnd) (old new : List ℕ) → bytes ≡ text → 0 < length text
    → (IsTrue tells → LeftOver old new bytes) → HasWritten tells text end Sink old new
written_part true text bytes end old new is some left =
    let (part, rest, took, all) = left refl in
    record {
      output = part;
      writes = inr (some, inl (refl, (rest, all ∙ is)));
      wrote = λ t. took;
    }
written_part false text bytes end old new is some left = record {
  output = [];
  writes = inr (some, inl (refl, (text, refl)));
  wrote = λ t. untold t;
}

pub no_memory : (tells : Bool) (text : List ℕ) (end : FillEnd) (old : List ℕ) → 0 < length text
    → HasWritten tells text end Memory old old
no_memory tells text end old some = record {
  output = [];
  writes = inr (some, inr (refl, refl));
  wrote = λ t. sym (append-nil old);
}
