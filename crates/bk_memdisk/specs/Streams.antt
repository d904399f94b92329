-- What a source and a sink in memory are.
use Rattle.std.specs.Prelude.{◌≡◌, ℕ, Bool, List}
use Rattle.std.specs.declared.option.Option.{Option}
use Rattle.bk_base.specs.declared.names.Name.{Name}

pub record Input : Type 0 where
  pub whole : List ℕ
  pub taken : ℕ
  pub faults : ℕ
  -- which read from now fails
  pub due : Option ℕ
  -- how much a read gives at most
  pub most : ℕ

-- the input and the size of its pieces stay
pub record SameInput (old new : Input) : Type 0 where
  pub whole : new.whole ≡ old.whole
  pub most : new.most ≡ old.most

pub record Output : Type 0 where
  pub written : List ℕ
  -- how many bytes it takes in all
  pub room : ℕ
  pub faults : ℕ
  -- which write from now fails
  pub due : Option ℕ

-- a view: the bytes left of its range
pub record Range : Type 0 where
  pub left : List ℕ
  pub faults : ℕ
  pub fallible : Bool

-- a lent file
pub record Written : Type 0 where
  pub name : Name
  pub bytes : List ℕ
  -- the length of its synced bytes
  pub synced : ℕ
