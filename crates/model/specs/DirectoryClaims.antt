-- What is claimed of directories, as types (specification 1.9 to 1.13, 17.18, 17.19).
use Rattle.std.specs.Prelude.{ℕ, suc, ◌+◌, ◌*◌, ◌^◌, ◌<◌, ◌≤◌, ◌≡◌, ◌⊎◌, ◌↔◌, length, take, drop}
use mathlib.Core.List.{List, [], ◌∷◌, Memᴰ}
use Rattle.std.proofs.Math.Option.{none, some}
use Rattle.model.specs.Objects.{ObjectKind, a_map, a_register, Object, the_layout, Shape}
use Rattle.model.specs.Entries.{Log}
use Rattle.model.specs.Directory.{record_size, most_records, id_at, shape_of, record_bytes, directory_of}
use Rattle.model.specs.Answers.{Refusal, refused}
use Rattle.model.specs.Reading.{check, owed, entry_call, item_list, stream_next, stream_list}
use Rattle.model.specs.Append.{Replica, Request, append}
use Rattle.model.specs.Replica.{no_replica, open_fresh, open_at, play_call, read_cell, audit}
use Rattle.model.specs.Pricing.{price}
use Rattle.model.specs.Terms.{Directed}
use Rattle.model.specs.Claims.{Bytes}

-- ---- the bytes of a directory

-- the highest key of a map, and of a register
abbrev pub KeysAllowed : ObjectKind → ℕ → Type 0
KeysAllowed a_map highest = highest < 4294967295
KeysAllowed a_register highest = highest ≡ 0

-- an object that a directory may list
pub record Listable (b : Object) : Type 0 where
  pub positive : 1 ≤ b.id
  pub small : b.id < 2 ^ 31
  pub keys : KeysAllowed b.kind b.highest

-- each object has a smaller id than the next
abbrev pub IdsAscend : List Object → Type 0
IdsAscend [] = Unit {0}
IdsAscend (b ∷ []) = Unit {0}
IdsAscend (b ∷ c ∷ bs) = (b.id < c.id) × IdsAscend (c ∷ bs)

-- a list of objects that a directory may have
pub record Lists (bs : List Object) : Type 0 where
  pub some : 1 ≤ length bs
  pub few : length bs ≤ most_records
  pub each : (b : Object) → Memᴰ b bs → Listable b
  pub ascend : IdsAscend bs

-- the shape of a list of objects
abbrev pub shape_with : List Object → Shape
shape_with bs = record { objects = bs; layout = the_layout; fault = none }

-- Such a list is read back from its bytes, without fault.
abbrev pub ReadsBackDirectory : Type 0
ReadsBackDirectory = (bs : List Object) → Lists bs → shape_of (directory_of bs) ≡ shape_with bs

-- A directory has no fault exactly where its bytes are those of such a list.
abbrev pub DirectedExactly : Type 0
DirectedExactly = (d : List ℕ) → Bytes d → Directed (shape_of d) ↔ ((bs : List Object) × Lists bs × (d ≡ directory_of bs))

-- place k of a directory has a whole record of an object that may stand there
pub record GoodPlace (d : List ℕ) (k : ℕ) : Type 0 where
  pub few : k < most_records
  pub whole : record_size * k + record_size ≤ length d
  pub object : Object
  pub listable : Listable object
  pub bytes : take record_size (drop (record_size * k) d) ≡ record_bytes object
  -- its id is above that of the place before
  pub above : (j : ℕ) → k ≡ suc j → id_at d (record_size * j) < object.id

-- the first place at fault: a record begins there, or it is the first place
pub record FirstFault (d : List ℕ) (k : ℕ) : Type 0 where
  pub begun : (k ≡ 0) ⊎ (record_size * k < length d)
  pub before : (j : ℕ) → j < k → GoodPlace d j
  pub here : GoodPlace d k → ⊥

abbrev pub TellsFault : Type 0
TellsFault = (d : List ℕ) (k : ℕ) → Bytes d → ((shape_of d).fault ≡ some k) ↔ FirstFault d k

-- ---- the answer 15

abbrev pub at_place : ℕ → Refusal
at_place k = record { number = 15; told = some k }

-- Every call answers 15 and tells the place, whatever else it is given, and changes nothing.
pub record TurnsDown (sh : Shape) (k : ℕ) : Type 0 where
  pub checking : (log : Log) → check sh log ≡ refused (at_place k)
  pub owing : (log : Log) (sets : List ℕ) → owed sh log sets ≡ refused (at_place k)
  pub reading : (log : Log) (o : ℕ) → entry_call sh log o ≡ refused (at_place k)
  pub listing : (log : Log) (o : ℕ) → item_list sh log o ≡ []
  pub next : (log : Log) (x from : ℕ) → stream_next sh log x from ≡ record { found = refused (at_place k); reader = from }
  pub stream : (log : Log) (x : ℕ) (list : List ℕ) → stream_list sh log x list ≡ record { count = refused (at_place k); list = list }
  pub appending : (bytes : List ℕ) (tail : ℕ) (q : Request) → append sh bytes tail q ≡ record { new_tail = refused (at_place k); bytes = bytes }
  pub opening : (set : ℕ) → open_fresh sh set ≡ refused (at_place k)
  pub opening_at : (log : Log) (o : ℕ) (table : List ℕ) → open_at sh log o table ≡ record { answer = refused (at_place k); replica = no_replica; table = table }
  pub playing : (log : Log) (r : Replica) (table : List ℕ) (stop : ℕ) → play_call sh log r table stop ≡ record { answer = refused (at_place k); replica = r; table = table }
  pub showing : (r : Replica) (table : List ℕ) (o key : ℕ) → read_cell sh r table o key ≡ refused (at_place k)
  pub pricing : (r : Replica) (table : List ℕ) (o : ℕ) (prices : List ℕ) → price sh r table o prices ≡ refused (at_place k)
  pub auditing : (log : Log) (scratch : List ℕ) → audit sh log scratch ≡ record { answer = refused (at_place k); replica = no_replica; table = scratch }

abbrev pub AnswersFault : Type 0
AnswersFault = (sh : Shape) (k : ℕ) → sh.fault ≡ some k → TurnsDown sh k
