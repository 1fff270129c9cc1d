-- The cells of a directory in one order, by object and then by key, and the number of each (specification 1.3).
use Rattle.std.specs.Prelude.{ℕ, zero, suc, ◌+◌, ◌≡◌, Bool, true, cond, ◌&&◌, ◌||◌, List, [], ◌∷◌, ◌++◌, eqb, ltb}
use Rattle.lists.specs.Sets.{all}
use Rattle.lists.specs.Rows.{values}
use Rattle.model.specs.Objects.{Object}

-- a cell of a directory
pub record Name : Type 0 where
  pub object : ℕ
  pub key : ℕ

abbrev pub name : ℕ → ℕ → Name
name o k = record { object = o; key = k }

-- all cells of objects, by object and key
unfoldable pub names_in : List Object → List Name
names_in [] = []
names_in (b ∷ bs) = values (name b.id) 0 (b.highest + 1) ++ names_in bs

-- how many there are
unfoldable pub total : List Object → ℕ
total [] = 0
total (b ∷ bs) = b.highest + 1 + total bs

-- the number of a cell among them
unfoldable pub number_in : List Object → ℕ → ℕ → ℕ
number_in [] o k = 0
number_in (b ∷ bs) o k = cond (eqb b.id o) k (b.highest + 1 + number_in bs o k)

-- how many there are of the objects before place j
unfoldable pub base_at : List Object → ℕ → ℕ
base_at bs zero = 0
base_at [] (suc j) = 0
base_at (b ∷ bs) (suc j) = b.highest + 1 + base_at bs j

-- by object, then key
abbrev pub name_before : Name → Name → Bool
name_before x y = ltb x.object y.object || (eqb x.object y.object && ltb x.key y.key)

-- each is before all that follow it
unfoldable pub Rising : List Name → Type 0
Rising [] = Unit {0}
Rising (x ∷ xs) = (all (name_before x) xs ≡ true) × Rising xs
