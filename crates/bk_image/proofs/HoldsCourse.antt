-- The course of an event: one lemma for each call of the disk. It says that the disk still holds
-- the log, that the known bytes are as they were, and that a crash at each moment since the event
-- began meets the prefix.
use Rattle.std.proofs.Common.{◌≡◌, ℕ, ◌+◌, ◌⊎◌, false, cond, List, [], ◌++◌, length, Option}
use Rattle.std.proofs.Common.{None, Some, refl, sym, ap, subst, ◌∙◌, inl, inr}
use Rattle.bk_base.specs.declared.writes.Write.{Write}
use Rattle.bk_disk.specs.Names.{same}
use Rattle.bk_disk.specs.Told.{Told, clock}
use Rattle.bk_disk.specs.Crashes.{AtEach}
use Rattle.bk_disk.specs.Calls.{Appended, Cut, Made, Passes, Synced}
use Rattle.bk_disk.proofs.Moments.{goes_on, started}
use Rattle.bk_image.specs.Readings.{bytes_in, main}
use Rattle.bk_image.specs.Core.{ActiveFile}
use Rattle.bk_image.specs.Holds.{Begun, Holds, IsLeft, Lasts, Shape, SoFar}
use Rattle.bk_image.specs.Known.{KnowsSame, known_of}
use Rattle.bk_image.specs.Prefix.{MeetsEither}
use Rattle.bk_image.proofs.CoreEvents.{grown_by}
use Rattle.bk_image.proofs.HoldsCrashes.{holds_prefix, meets_either, prefix_moved}
use Rattle.bk_image.proofs.HoldsEvents.{Follows, IsCut, cut_after, cut_at_rest, holds_cut}
use Rattle.bk_image.proofs.HoldsEvents.{holds_fewer, holds_low, holds_more, holds_part, holds_same}
use Rattle.bk_image.proofs.HoldsEvents.{holds_synced}
use Rattle.bk_image.proofs.HoldsKnown.{KnowsMore, knows_cut, knows_length, knows_made, knows_more}
use Rattle.bk_image.proofs.HoldsKnown.{knows_part, knows_rolled, knows_still}
use Rattle.bk_image.proofs.HoldsRolls.{holds_made, holds_rolled, holds_still, none_tried}

-- ---- the start, and any call

abbrev pub begun : Told → Option ActiveFile → List Write → ℕ → List Write → List Write → Begun
begun t active log kept tried more = record {
  from = clock t;
  known = known_of active t.image;
  log = log;
  kept = kept;
  tried = tried;
  more = more;
}

pub begins : {J : Shape → Type 0} {t : Told} {active : Option ActiveFile} {last : ℕ}
    {log : List Write} {kept : ℕ} {tried : List Write} (more : List Write)
    → Holds J t active last log kept tried
    → SoFar J (begun t active log kept tried more) t active last tried
begins {t = t} {active = active} {log = log} {kept = kept} {tried = tried} more h = record {
  holds = h;
  is_left = inl refl;
  known = λ n. refl;
  each =
      let e = begun t active log kept tried more in
      started t (MeetsEither log kept tried more)
      (meets_either e tried t.fronts (inl refl) (holds_prefix h));
}

module _ {J : Shape → Type 0} {e : Begun} {old new : Told} {active : Option ActiveFile} {last : ℕ}
    {left : List Write} where
  -- a call after which the disk holds the log again
  pub comes_to : {now : Option ActiveFile} {later : ℕ} {rest : List Write}
      → SoFar J e old active last left → Passes old new → IsLeft e rest
      → KnowsSame (known_of active old.image) (known_of now new.image)
      → Holds J new now later e.log e.kept rest → SoFar J e new now later rest
  comes_to {rest = rest} so passes is_left knows h = record {
    holds = h;
    is_left = is_left;
    known = λ n. knows n ∙ so.known n;
    each = goes_on old new e.from (MeetsEither e.log e.kept e.tried e.more) passes so.each
        (meets_either e rest new.fronts is_left (holds_prefix h));
  }

  -- one that changed neither a file nor a front, as a view
  pub after_same : SoFar J e old active last left → Passes old new → new.image ≡ old.image
      → new.fronts ≡ old.fronts → SoFar J e new active last left
  after_same so passes image fronts =
      comes_to so passes so.is_left (knows_still active image)
      (holds_same new so.holds image fronts)

  -- the next file was made, and the roll was refused
  pub after_made : Lasts J → SoFar J e old active last left → Made (main (last + 1)) false old new
      → SoFar J e new active last left
  after_made lasts so b =
      comes_to so b.passes so.is_left (knows_made so.holds b) (holds_made lasts so.holds b)

-- ---- the mend of a failed append

module _ {J : Shape → Type 0} {e : Begun} {old new : Told} {a : ActiveFile} {last : ℕ}
    {left : List Write} where
  pub after_cut : SoFar J e old (Some a) last left → Cut (main a.id) a.len old new
      → SoFar J e new (Some a) last left
  after_cut so b = comes_to so b.passes so.is_left (knows_cut a b) (holds_cut so.holds b)

  pub after_sync : Lasts J → SoFar J e old (Some a) last left → IsCut a old
      → Synced (main a.id) old new → SoFar J e new (Some a) last []
  after_sync lasts so cut b =
      comes_to so b.passes (inr (inl refl)) (knows_still (Some a) b.image)
      (holds_fewer e.kept (holds_low so.holds) (holds_synced lasts so.holds cut b))

pub after_repair : {J : Shape → Type 0} → Lasts J → {e : Begun} {old new : Told} {a : ActiveFile}
    {last : ℕ} {left : List Write} (mid : Told) → SoFar J e old (Some a) last left
    → Cut (main a.id) a.len old mid → Synced (main a.id) mid new → SoFar J e new (Some a) last []
after_repair lasts mid so cut b = after_sync lasts (after_cut so cut) (cut_after so.holds cut) b

-- A repair: where something is tried the active file is cut and synced.
abbrev pub Mends : Option ActiveFile → List Write → Told → Told → Type 0
Mends None left old new = new ≡ old
Mends (Some a) left old new =
    ((left ≡ []) × (new ≡ old))
    ⊎ ((mid : Told) × Cut (main a.id) a.len old mid × Synced (main a.id) mid new)

-- a repair that was refused: the cut is done or not
abbrev pub HalfMends : Option ActiveFile → Told → Told → Type 0
HalfMends None old new = new ≡ old
HalfMends (Some a) old new = (new ≡ old) ⊎ Cut (main a.id) a.len old new

still_so : {J : Shape → Type 0} {e : Begun} {old new : Told} {active : Option ActiveFile} {last : ℕ}
    {left : List Write} → SoFar J e old active last left → new ≡ old
    → SoFar J e new active last left
still_so {J} {e} {active = active} {last = last} {left = left} so still =
    subst (λ (t : Told). SoFar J e t active last left) (sym still) so

none_left : {J : Shape → Type 0} {e : Begun} {t : Told} {active : Option ActiveFile} {last : ℕ}
    {left : List Write} → SoFar J e t active last left → left ≡ [] → SoFar J e t active last []
none_left {J} {e} {t} {active} {last} so none =
    subst (λ (ws : List Write). SoFar J e t active last ws) none so

module _ {J : Shape → Type 0} (lasts : Lasts J) {e : Begun} {old new : Told} {last : ℕ}
    {left : List Write} where
  pub after_mend : (active : Option ActiveFile) → SoFar J e old active last left
      → Mends active left old new → SoFar J e new active last []
  after_mend None so still = still_so (none_left so (none_tried so.holds)) still
  after_mend (Some a) so (inl (none, still)) = still_so (none_left so none) still
  after_mend (Some a) so (inr (mid, cut, b)) = after_repair lasts mid so cut b

  pub after_half_mend : (active : Option ActiveFile) → SoFar J e old active last left
      → HalfMends active old new → SoFar J e new active last left
  after_half_mend None so still = still_so so still
  after_half_mend (Some a) so (inl still) = still_so so still
  after_half_mend (Some a) so (inr b) = after_cut so b

-- ---- a sync of all, and a roll

-- the active file is synced, where there is one
abbrev pub Settles : Option ActiveFile → Told → Told → Type 0
Settles None old new = new ≡ old
Settles (Some a) old new = Synced (main a.id) old new

-- then the next file was made
abbrev pub Rolls : Option ActiveFile → ℕ → Told → Told → Type 0
Rolls active last old new =
    (mid : Told) × Settles active old mid × Made (main (last + 1)) false mid new

-- A roll that was refused: nothing was done, or the sync alone, or the next file was made.
abbrev pub HalfRolls : Option ActiveFile → ℕ → Told → Told → Type 0
HalfRolls active last old new = (new ≡ old) ⊎ (Settles active old new ⊎ Rolls active last old new)

-- Once all is synced no crash takes a write of the log.
pub holds_settled : {J : Shape → Type 0} → Lasts J → {old new : Told} (active : Option ActiveFile)
    {last : ℕ} {log : List Write} {kept : ℕ} → Holds J old active last log kept []
    → Settles active old new → Holds J new active last log (length log) []
holds_settled {J} lasts None {last} {log} h still =
    subst (λ (t : Told). Holds J t None last log (length log) []) (sym still) (holds_still h)
holds_settled lasts (Some a) h b = holds_synced lasts h (cut_at_rest h) b

module _ {J : Shape → Type 0} (lasts : Lasts J) {e : Begun} {old : Told} where
  pub after_settled : {new : Told} (active : Option ActiveFile) {last : ℕ}
      → SoFar J e old active last [] → Settles active old new → SoFar J e new active last []
  after_settled None so still = still_so so still
  after_settled (Some a) so b = after_sync lasts so (cut_at_rest so.holds) b

  pub after_roll : {new : Told} (active : Option ActiveFile) {last : ℕ}
      → SoFar J e old active last [] → Rolls active last old new
      → SoFar J e new (Some (record { id = last + 1; len = 0 })) (last + 1) []
  after_roll active so (mid, settles, b) =
      let settled = holds_settled lasts active so.holds settles in
      let knows = knows_rolled active settled b in
      comes_to (after_settled active so settles) b.passes (inr (inl refl)) knows
      (holds_fewer e.kept (holds_low so.holds) (holds_rolled lasts settled b))

  pub after_half_roll : {new : Told} (active : Option ActiveFile) {last : ℕ}
      → SoFar J e old active last [] → HalfRolls active last old new → SoFar J e new active last []
  after_half_roll active so (inl still) = still_so so still
  after_half_roll active so (inr (inl settles)) = after_settled active so settles
  after_half_roll active so (inr (inr (mid, settles, b))) =
      after_made lasts (after_settled active so settles) b

-- ---- the append

-- The event has written: the disk holds the log with its writes, and their records stand behind the
-- known bytes of the active file.
pub record HasWritten (J : Shape → Type 0) (e : Begun) (t : Told) (a : ActiveFile) (piece : List ℕ)
    (last : ℕ) : Type 0 where
  pub holds : Holds J t (Some (grown_by (length piece) a)) last (e.log ++ e.more) e.kept []
  pub each : AtEach t e.from (MeetsEither e.log e.kept e.tried e.more)
  pub known : KnowsMore (main a.id) piece e.known
      (known_of (Some (grown_by (length piece) a)) t.image)
  pub place : length (bytes_in e.known (main a.id)) ≡ a.len

module _ {J : Shape → Type 0} {e : Begun} {old new : Told} {a : ActiveFile} {last : ℕ}
    {piece : List ℕ} where
  -- one that failed
  pub after_part : (count : ℕ) → SoFar J e old (Some a) last [] → Follows e.log e.more piece
      → Appended (main a.id) count piece old new → SoFar J e new (Some a) last e.more
  after_part count so f b =
      comes_to so b.passes (inr (inr refl)) (knows_part count piece so.holds b)
      (holds_part count so.holds f b)

  pub after_append : Lasts J → SoFar J e old (Some a) last [] → Follows e.log e.more piece
      → Appended (main a.id) (length piece) piece old new → HasWritten J e new a piece last
  after_append lasts so f b =
      let h = holds_more lasts so.holds f b in
      record {
        holds = h;
        each = goes_on old new e.from (MeetsEither e.log e.kept e.tried e.more) b.passes so.each
            (meets_either e e.more new.fronts (inr (inr refl))
            (λ image may chance. prefix_moved (holds_prefix h image may chance)));
        known = record {
          more = λ m. (knows_more piece so.holds b).more m
              ∙ ap (λ (bytes : List ℕ). cond (same m (main a.id)) (bytes ++ piece) bytes)
              (so.known m);
        };
        place = ap length (sym (so.known (main a.id))) ∙ knows_length so.holds;
      }
