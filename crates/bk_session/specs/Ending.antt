-- What is written as a session ends.
use Rattle.std.specs.Prelude.{◌≡◌, ◌⊎◌, ℕ, List, ◌++◌, Bool, IsTrue, Option, None, Some}
use Rattle.bk_base.specs.declared.statuses.SessionEnd.{SessionEnd}
use Rattle.bk_base.specs.declared.statuses.SessionEnd.TheVariants.{Quit as quit_end, Syntax, Sink as sink_end, Memory as memory_end}
use Rattle.bk_disk.specs.Streams.{LeftOver, Wrote}
use Rattle.bk_exchange.specs.Sessions.{syntax_text}
use Rattle.bk_session.specs.declared.serving.Onward.{Onward}
use Rattle.bk_session.specs.declared.serving.Onward.TheVariants.{Next, Quit, Sink, Memory}
use Rattle.bk_session.specs.Outgoing.{Outgoing}

-- All that was gathered was written, and the session ends so; or the sink failed and took a first part of it.
abbrev pub WritesLast : SessionEnd → SessionEnd → Bool → List ℕ → List ℕ → List ℕ → Type 0
WritesLast end result tells before now gathered =
    ((result ≡ end) × (IsTrue tells → Wrote before now gathered))
    ⊎ ((result ≡ sink_end) × (IsTrue tells → LeftOver before now gathered))

-- The same, with the line SYNTAX behind what was gathered; or there was no memory for this line.
abbrev pub WritesSyntax : ℕ → SessionEnd → Bool → List ℕ → List ℕ → List ℕ → Type 0
WritesSyntax offset result tells before now gathered =
    WritesLast (Syntax offset) result tells before now (gathered ++ syntax_text offset)
    ⊎ ((result ≡ memory_end) × (IsTrue tells → Wrote before now gathered))

-- how a session ends behind a request, if it does
abbrev pub WritesAfter : Onward → Option SessionEnd → Bool → Outgoing → Outgoing → Type 0
WritesAfter Next result tells old new = (result ≡ None) × (new ≡ old)
WritesAfter Quit result tells old new =
    (end : SessionEnd) × (result ≡ Some end) × WritesLast quit_end end tells old.written new.written old.gathered
WritesAfter Sink result tells old new = (result ≡ Some sink_end) × (new ≡ old)
WritesAfter Memory result tells old new =
    (end : SessionEnd) × (result ≡ Some end) × WritesLast memory_end end tells old.written new.written old.gathered
