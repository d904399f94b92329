-- Room for a version, and a version that is newer than all others.
use Rattle.std.proofs.Common.{◌≡◌, ◌↔◌, ℕ, ◌<◌, Bool, true, false, not, List, [], ◌∷◌, Option, Some, None, refl, sym, ap, ◌∙◌, length, IsTrue}
use Rattle.bk_base.specs.declared.writes.Version.{Version}
use Rattle.bk_keydir.specs.declared.slots.Slot.{Slot}
use Rattle.bk_keydir.specs.Slots.{has_open, is_seen, reaches}
use Rattle.bk_keydir.specs.Keydir.{HasRoomFor, IsNewer, IsNewerThan, Shown, keeps_newest, newest_of, versions_of}
use Rattle.bk_keydir.specs.Kept.{IsChain}
use Rattle.bk_keydir.proofs.SlotLemmas.{is_seen-newest}
use Rattle.bk_keydir.proofs.FoldLemmas.{below_from_reaches, reaches_from_below}

none_seen : (vs : List Version) (seq : ℕ) (slots : List (Option Slot)) → has_open slots ≡ false → is_seen slots vs seq ≡ false
none_seen vs seq [] h = refl
none_seen vs seq (None ∷ slots) h = none_seen vs seq slots h
none_seen vs seq (Some s ∷ slots) h = absurd (cc h)

-- the newest version is kept exactly where an open fold reaches it
pub keeps-reached : (slots : List (Option Slot)) (vs : List Version) (w : Version) → IsChain vs → newest_of vs ≡ Some w
    → keeps_newest slots vs ≡ reaches slots w.seq.0
keeps-reached slots [] w h at = absurd h
keeps-reached slots (v ∷ vs) w h at =
    let same : v ≡ w = cc at in
    is_seen-newest slots v vs h ∙ ap (λ (x : Version). reaches slots x.seq.0) same

pub room_closed : (d : Shown) (vs : List Version) → 0 < d.spare → has_open d.slots ≡ false → HasRoomFor d vs
room_closed d [] spare closed = spare
room_closed d (v ∷ vs) spare closed = λ seen.
    let wrong : true ≡ false = sym seen ∙ none_seen (v ∷ vs) v.seq.0 d.slots closed in absurd (cc wrong)

pub room_unreached : (d : Shown) (vs : List Version) (w : Version) → IsChain vs → newest_of vs ≡ Some w
    → reaches d.slots w.seq.0 ≡ false → HasRoomFor d vs
room_unreached d [] w h at low = absurd h
room_unreached d (v ∷ vs) w h at low = λ seen.
    let wrong : true ≡ false = sym seen ∙ keeps-reached d.slots (v ∷ vs) w h at ∙ low in absurd (cc wrong)

pub room_reached : (d : Shown) (vs : List Version) (w : Version) → IsChain vs → newest_of vs ≡ Some w
    → reaches d.slots w.seq.0 ≡ true → HasRoomFor d vs → length vs < d.chain
room_reached d [] w h at high room = absurd h
room_reached d (v ∷ vs) w h at high room = room (keeps-reached d.slots (v ∷ vs) w h at ∙ high)

pub newer_by : (seq : ℕ) (key : List ℕ) (d : Shown) (b : Bool) → b ≡ reaches d.slots seq → IsNewerThan seq (versions_of key d.entries)
    → IsTrue (not b) ↔ IsNewer seq key d
newer_by seq key d true is newer = (
  λ wrong. absurd (cc wrong),
  λ h. let none = reaches_from_below d.slots seq h.epochs in let wrong : true ≡ false = is ∙ none in absurd (cc wrong),
)
newer_by seq key d false is newer =
    (λ h. record { newest = newer; epochs = below_from_reaches d.slots seq (sym is) }, λ h. refl)
