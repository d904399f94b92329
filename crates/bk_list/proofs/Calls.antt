-- One call more of a history that lists.
use Rattle.std.proofs.Common.{◌≡◌, ℕ, ◌+◌, ◌-◌, Bool, List, [], ◌∷◌, ◌++◌, refl}
use Rattle.std.specs.Prelude.{IsTrue}
use Rattle.bk_base.specs.declared.calls.Answer.{Answer}
use Rattle.bk_base.specs.declared.calls.Call.{Call}
use Rattle.bk_base.specs.declared.histories.Step.{Step}
use Rattle.bk_exchange.specs.Listings.{Row}
use Rattle.bk_exchange.specs.OneThread.{one_if_quiet}
use Rattle.bk_exchange.specs.Points.{Said, heard, point_of}
use Rattle.bk_exchange.proofs.Bodies.{listing_behind}
use Rattle.bk_laws.specs.History.{State, changed, state_after}
use Rattle.bk_session.specs.Following.{own_context}
use Rattle.bk_session.specs.Listing.{Begun, IsUnmoved, Listed}
use Rattle.bk_session.proofs.Events.{Rises, Still, counts_of, is_step_of, step_of}
use Rattle.bk_session.proofs.FoldCalls.{listed_more}
use Rattle.bk_session.proofs.Following.{follows_still}
use Rattle.bk_store.specs.Events.{Keeps, entry_by}
use Rattle.bk_store.specs.Shown.{Shown}
use Rattle.bk_list.specs.Getting.{GoesTo}

-- ---- a call that changes neither the log nor the folds

module _ (known : Bool) (v u : Shown) (call : Call) (answer : Answer) (views : ℕ)
    (rises : Rises v u (u.files.faults - v.files.faults) views) (still : Still v u)
    (same : (s : State) → changed 0 call answer s ≡ s)
    (keeps : IsTrue known → Keeps known (entry_by 0 call answer) v u)
    (unmoved : IsTrue known → IsUnmoved v.files.told u.files.told) where
  pub plus_one : (behind : List Said) (b : Begun) (slot : ℕ) (given : List Row) (steps : List Step)
      (l : Listed known b slot v given behind 0 steps)
      → GoesTo known b slot u given (behind ++ heard call answer) (0 + one_if_quiet call)
  plus_one behind b slot given steps l =
      let e = entry_by 0 call answer in
      let faults = u.files.faults - v.files.faults in
      let step = step_of known e faults views u in
      let h = b.before ++ steps in
      record {
        steps = steps ++ step ∷ [];
        listed = listed_more known b slot v u given given behind (behind ++ heard call answer) 0 steps l step call answer refl
            (listing_behind (own_context b.opening) (point_of b.opening b.before) steps [] step b.now l.epoch slot given behind call
            answer l.called tt refl)
            (follows_still known v u b.opening h b.tried b.tried step e l.follows (counts_of known e faults views v u rises) refl
            (same (state_after b.opening h)) still.kept still.seq still.slots
            (λ tell. keeps tell b.opening h b.tried step (l.follows.stands tell)
            (is_step_of known e faults views v u tell rises) refl))
            unmoved refl;
      }
