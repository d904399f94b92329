-- From what a drill did to what its line says.
use Rattle.std.proofs.Common.{◌≡◌, ◌∙◌, ℕ, true, false, List, [], ◌∷◌, ◌++◌, refl, sym, ap, subst, inl, inr}
use Rattle.std.specs.Prelude.{Result, Ok, Err, OnErr, OnOk, is_err}
use Rattle.std.proofs.lemmas.List.{append-nil}
use Rattle.bk_base.specs.declared.histories.StoreSettings.{StoreSettings}
use Rattle.bk_base.specs.declared.numbers.Moment.{Moment}
use Rattle.bk_memdisk.specs.Plans.{Planned, chosen, counted_to, fused}
use Rattle.bk_script.specs.declared.actors.Actor.{Actor}
use Rattle.bk_script.specs.declared.lines.Action.{Action}
use Rattle.bk_script.specs.declared.lines.Line.TheVariants.{Max, Ttl, At, Fail, Fuse, By}
use Rattle.bk_script.specs.declared.printed.Printed.{Printed}
use Rattle.bk_script.specs.declared.printed.Printed.TheVariants.{Memory}
use Rattle.bk_script.specs.Printed.{printed_text}
use Rattle.bk_store.specs.Shown.{Shown, settings_of}
use Rattle.bk_drill.specs.Between.{Between, IsEmpty, with_plan}
use Rattle.bk_drill.specs.Drills.{text_of}
use Rattle.bk_drill.specs.declared.drills.Drill.{Drill}
use Rattle.bk_drill.specs.Lines.{IsAsPlanned}
use Rattle.bk_drill.specs.Progress.{ActsAs, IsNew, IsSameStore, RunsAs}
use Rattle.bk_drill.specs.Shown.{IsAt}
use Rattle.bk_drill.proofs.Parting.{at_planned}

-- ---- answers

pub on_err : {T E P : Type 0} (r : Result T E) → is_err r ≡ true → OnErr r P → P
on_err (Ok v) is p = absurd (cc is)
on_err (Err e) is p = p

pub on_ok : {T E P : Type 0} (r : Result T E) → is_err r ≡ false → OnOk r P → P
on_ok (Ok v) is p = p
on_ok (Err e) is p = absurd (cc is)

-- ---- texts

pub prints_none : (old : List ℕ) → old ≡ old ++ text_of []
prints_none old = sym (append-nil old)

pub prints_one : (old new : List ℕ) (line : Printed) → new ≡ old ++ printed_text line → new ≡ old ++ text_of (line ∷ [])
prints_one old new line is = is ∙ ap (λ (text : List ℕ). old ++ text) (sym (append-nil (printed_text line)))

-- ---- the moment and the settings

pub runs_at : (d : Drill) (now : Moment) → RunsAs (At now) [] d (record d { now = now })
runs_at d now test is b at = (
  record b { moment = now },
  (refl, refl),
  record {
    follows = at.follows;
    moment = refl;
    plan = at.plan;
    settings = at.settings;
    slots = at.slots;
    loans = at.loans;
    listed = at.listed;
  },
)

settings_at : (d : Drill) (b : Between) → IsAt d b → settings_of d.settings ≡ b.opening.settings
settings_at d b at = ap settings_of (sym at.settings) ∙ sym at.follows.agrees.settings

pub runs_max : (d new : Drill) (n : ℕ) → IsNew (record d.settings { max_file = n }) new → RunsAs (Max n) [] d new
runs_max d new n (first, empty, there) test is b at = (
  first,
  (refl, subst (λ (given : StoreSettings). IsEmpty (record given { max_file = n }) first) (settings_at d b at) empty),
  there,
)

pub runs_ttl : (d new : Drill) (n : ℕ) → IsNew (record d.settings { ttl = n }) new → RunsAs (Ttl n) [] d new
runs_ttl d new n (first, empty, there) test is b at = (
  first,
  (refl, subst (λ (given : StoreSettings). IsEmpty (record given { ttl = n }) first) (settings_at d b at) empty),
  there,
)

-- ---- the calls that fail

pub runs_fail : (d : Drill) (u : Shown) (plan : Planned) (nth effect : ℕ) → IsSameStore d.store u
    → plan ≡ chosen nth effect d.plan → RunsAs (Fail nth effect) [] d (record d { store = u; plan = plan })
runs_fail d u plan nth effect same noted test is b at = (
  with_plan plan b,
  inl (refl, ap (λ (p : Planned). with_plan p b) (noted ∙ ap (chosen nth effect) (sym at.plan))),
  at_planned d u plan b same at,
)

pub runs_fail_not : (d : Drill) (plan : Planned) (nth effect : ℕ) → plan ≡ d.plan
    → RunsAs (Fail nth effect) (Memory ∷ []) d (record d { plan = plan })
runs_fail_not d plan nth effect same test is b at = (
  b,
  inr (refl, refl),
  record {
    follows = at.follows;
    moment = at.moment;
    plan = at.plan ∙ sym same;
    settings = at.settings;
    slots = at.slots;
    loans = at.loans;
    listed = at.listed;
  },
)

pub runs_fuse : (d : Drill) (u : Shown) (plan : Planned) (calls effect : ℕ) → IsSameStore d.store u
    → plan ≡ fused calls effect d.plan → RunsAs (Fuse calls effect) [] d (record d { store = u; plan = plan })
runs_fuse d u plan calls effect same noted test is b at = (
  with_plan plan b,
  (refl, ap (λ (p : Planned). with_plan p b) (noted ∙ ap (fused calls effect) (sym at.plan))),
  at_planned d u plan b same at,
)

-- ---- an action

-- The action was done by `acted`; then the calls were counted.
pub runs_by : (old acted : Drill) (u : Shown) (plan : Planned) (calls : ℕ) (actor : Actor) (action : Action) (line : Printed)
    → ActsAs actor.0 action line old acted → IsSameStore acted.store u → IsAsPlanned acted.plan calls line
    → plan ≡ counted_to calls acted.plan
    → RunsAs (By actor action) (line ∷ []) old (record acted { store = u; plan = plan })
runs_by old acted u plan calls actor action line acts same planned counts test is b at =
    let (mid, did, there) = acts b at in
    let plans : acted.plan ≡ b.plan = sym there.plan ∙ did.plan in (
      with_plan plan mid,
      (
        line,
        refl,
        record {
          acted = mid;
          acts = did;
          calls = calls;
          planned = subst (λ (p : Planned). IsAsPlanned p calls line) plans planned;
          counted = ap (λ (p : Planned). with_plan p mid) (counts ∙ ap (counted_to calls) plans);
        },
      ),
      at_planned acted u plan mid same there,
    )
