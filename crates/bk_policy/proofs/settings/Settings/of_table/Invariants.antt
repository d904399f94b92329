use Rattle.std.proofs.Common.{◌≡◌}
use Rattle.toml.specs.View.{members_view}
use Rattle.bk_policy.specs.Reading.{after_members}
use Rattle.bk_policy.specs.Settings.{defaults}
use Rattle.bk_policy.proofs.settings.Settings.of_table.Given as goal

-- what the rest says after the settings so far is what all say
abbrev pub invariant-members : goal.invariant-members
invariant-members l =
    goal.iterator-members.can_next l.key-iterator
    × goal.iterator-members.is_finite l.key-iterator
    × (after_members (members_view l.key-iterator) l.settings ≡ after_members (members_view l.table.entries) defaults)
