-- What a fill does, from its number of pairs to the line that it writes.
use Rattle.std.specs.Prelude.{◌≡◌, ◌⊎◌, ℕ, ◌<◌, List, [], ◌∷◌, ◌++◌, length, codes, Bool, IsTrue, Result, Ok, Err}
use Rattle.bk_base.specs.declared.histories.Opening.{Opening}
use Rattle.bk_base.specs.declared.histories.Step.{Step}
use Rattle.bk_base.specs.declared.numbers.Moment.{Moment}
use Rattle.bk_base.specs.declared.numbers.Seq.{Seq}
use Rattle.bk_base.specs.declared.requests.Full.TheVariants.{Files, Seq as full_seq}
use Rattle.bk_base.specs.declared.requests.Reply.TheVariants.{Full as full_line}
use Rattle.bk_base.specs.declared.writes.Write.{Write}
use Rattle.bk_disk.specs.declared.errors.Failed.{Failed}
use Rattle.bk_exchange.specs.Sessions.{IsStart, Ticks}
use Rattle.bk_fill.specs.declared.ends.FillEnd.{FillEnd}
use Rattle.bk_fill.specs.declared.ends.FillEnd.TheVariants.{Done, Full, Disk, Sink, Memory}
use Rattle.bk_fill.specs.declared.work.Work.{Work}
use Rattle.bk_fill.specs.Work.{HasWorked}
use Rattle.bk_laws.specs.Wire.{and_number, line, numbered, reply_text}
use Rattle.bk_session.specs.Following.{Follows}
use Rattle.bk_store.specs.declared.errors.PutError.{PutError}
use Rattle.bk_store.specs.declared.errors.PutError.TheVariants.{FullSeq, FullFiles, Disk as put_disk, Memory as put_memory}
use Rattle.bk_store.specs.Shown.{Shown}

-- ---- the line

-- how many pairs were put, how many keys the store has, and how many bytes the records of these puts have
abbrev pub filled_line : ℕ → ℕ → ℕ → List ℕ
filled_line count keys bytes = line (and_number (and_number (numbered (codes "FILLED ") count) keys) bytes)

-- the text that is written at the end, by how the puts ended and whether the sync was answered
abbrev pub text_due : ℕ → ℕ → Result ℕ PutError → Result Seq Failed → List ℕ
text_due count keys (Ok bytes) (Ok seq) = filled_line count keys bytes
text_due count keys (Ok bytes) (Err e) = []
text_due count keys (Err FullSeq) sync = reply_text (full_line full_seq)
text_due count keys (Err FullFiles) sync = reply_text (full_line Files)
text_due count keys (Err put_disk) sync = []
text_due count keys (Err put_memory) sync = []

-- How a fill ends whose text is written. A sync that fails changes the end of a fill alone that put all its pairs.
abbrev pub end_due : Result ℕ PutError → Result Seq Failed → FillEnd
end_due (Ok bytes) (Ok seq) = Done
end_due (Ok bytes) (Err e) = Disk
end_due (Err FullSeq) sync = Full
end_due (Err FullFiles) sync = Full
end_due (Err put_disk) sync = Disk
end_due (Err put_memory) sync = Memory

-- The text was written; or the sink failed and took a first part of it, or there was no memory for it.
abbrev pub Writes : List ℕ → FillEnd → FillEnd → List ℕ → Type 0
Writes text due end output =
    ((end ≡ due) × (output ≡ text))
    ⊎ ((0 < length text) × (((end ≡ Sink) × IsStart output text) ⊎ ((end ≡ Memory) × (output ≡ []))))

-- what the sink took of a text
pub record HasWritten (tells : Bool) (text : List ℕ) (due end : FillEnd) (old new : List ℕ) : Type 0 where
  pub output : List ℕ
  pub writes : Writes text due end output
  pub wrote : IsTrue tells → new ≡ old ++ output

-- ---- the whole

-- what a fill shows as it begins and as it ends: its store, what the sink took, the moments that the clock has to give
pub record Sides : Type 0 where
  pub store : Shown
  pub written : List ℕ
  pub moments : List Moment

abbrev pub sides_of : Shown → List ℕ → List Moment → Sides
sides_of store written moments = record { store = store; written = written; moments = moments }

-- what its sink and its clock tell
pub record Telling : Type 0 where
  pub sink : Bool
  pub clock : Bool

abbrev pub telling : Bool → Bool → Telling
telling sink clock = record { sink = sink; clock = clock }

-- The puts are all at the one moment that the clock was asked for.
pub record IsFilled (known : Bool) (tells : Telling) (count : ℕ) (old new : Sides) (end : FillEnd) (o : Opening)
    (h : List Step) (first : List Write) : Type 0 where
  pub now : Moment
  pub work : Work
  pub worked : HasWorked known now count work old.store new.store o h first
  pub ticks : IsTrue tells.clock → Ticks (now ∷ []) old.moments new.moments
  pub written : HasWritten tells.sink (text_due count work.keys work.puts work.sync)
      (end_due work.puts work.sync) end old.written new.written

-- It is said of each history that the store followed, with all that is known of what it holds.
abbrev pub IsFilledFor : Bool → Telling → ℕ → Sides → Sides → FillEnd → Type 0
IsFilledFor known tells count old new end = (o : Opening) (h : List Step) (first : List Write)
    → Follows known old.store o h first → IsFilled known tells count old new end o h first
