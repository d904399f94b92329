-- Passes of places, made one.
use Rattle.std.proofs.Common.{◌≡◌, ℕ, ◌+◌, ◌≤◌, List, length, nat_lt, false, Bool, Option, Some, None, refl, ap, sym, ◌∙◌, arith, if◌then◌else◌}
use Rattle.bk_base.specs.declared.histories.Step.{Step}
use Rattle.bk_turn.specs.declared.passes.Pass.{Pass}
use Rattle.bk_turn.specs.declared.views.View.{View}
use Rattle.bk_turn.specs.Handles.{pass_view}
use Rattle.bk_turn.specs.History.{own_of, longer, Joins}
use Rattle.bk_turn.specs.Places.{end_of, Keeps, IsSeenIn}
use Rattle.bk_turn.proofs.Beginnings.{prefix_self, prefix_trans}

pub keeps_itself : (view : View) → Keeps view 0 view
keeps_itself view =
    record {
      same = (refl, refl, refl);
      seen = prefix_self view.seen;
      own_kept = refl;
      weighs =
          omega arith;
    }

pub keeps_join : (left right now : View) → Joins left right now → Keeps left right.weight now
keeps_join left right now j = record { same = j.same; seen = j.left_seen; own_kept = j.left_own; weighs = j.weighs }

pub keeps_more : (old mid now : View) (w v : ℕ) → Keeps old w mid → Keeps mid v now → Keeps old (w + v) now
keeps_more old mid now w v k n = record {
  same = (n.same.0 ∙ k.same.0, n.same.1 ∙ k.same.1, n.same.2 ∙ k.same.2);
  seen = prefix_trans _ _ _ k.seen n.seen;
  own_kept = ap (λ (m : Option ℕ). own_of m now.seen) (sym k.same.2)
      ∙ (n.own_kept ∙ (ap (λ (m : Option ℕ). own_of m mid.seen) k.same.2 ∙ k.own_kept));
  weighs = let a = k.weighs in let b = n.weighs in omega arith;
}

-- a list that isn't shorter is the longer one
keeps_left : (left right : List Step) → length right ≤ length left → longer left right ≡ left
keeps_left left right le = let e : nat_lt (length left) (length right) ≡ false =
    grind arith in ap (λ (b : Bool). if b then right else left) e

pub no_farther : (left right now : View) → Joins left right now → end_of right ≤ end_of left → now.seen ≡ left.seen
no_farther left right now j le = let same = j.one_turn.0 in j.longer_kept
    ∙ keeps_left left.seen right.seen (omega arith)

pub seen_in : (left now : View) (right : Pass) → Joins left (pass_view right) now → IsSeenIn now.seen (Some right)
seen_in left now right j = record { seen = j.right_seen; own_kept = j.right_own }

pub nothing_seen : (steps : List Step) → IsSeenIn steps None
nothing_seen steps = record { seen = (steps, refl); own_kept = refl }
