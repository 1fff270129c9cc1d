-- The conditions that the demands name, in words of their own: over the entries of a log, the items that were given and the
-- cells of a table, and by no test of the calls that are to be judged.
use Rattle.std.specs.Prelude.{ℕ, ◌+◌, ◌*◌, ◌<◌, ◌≤◌, ◌^◌, ◌≡◌, ◌⊎◌, true, false, cond, eqb, length}
use mathlib.Core.List.{List, [], ◌∷◌, Memᴰ}
use Rattle.std.proofs.Math.Option.{Option, none, some}
use Rattle.lists.specs.Sets.{mem}
use Rattle.model.specs.Objects.{Shape, is_object, is_cell, hosted}
use Rattle.model.specs.Entries.{Write, Read, Held, Saved, Condition, Decision, plain, numbered, commit, decision, Log, writes_of}
use Rattle.model.specs.Slot.{most_slots, item_size}
use Rattle.model.specs.Rules.{good_at}
use Rattle.model.specs.Table.{Cell, Holds, cells_of, capacity, version_in, lookup}
use Rattle.model.specs.Play.{whole}
use Rattle.model.specs.Answers.{done}
use Rattle.model.specs.Append.{Replica, Request, update, commits, decides, saves, writes_given, condition_given}
use Rattle.model.specs.Replica.{Left, plainly}
use Rattle.model.specs.Run.{Run}
use Rattle.model.specs.Histories.{Lent, in_log, Carried}

-- ---- the directory and the log

-- the directory that was handed over is within its rules
abbrev pub Directed : Shape → Type 0
Directed sh = sh.fault ≡ none

-- every bit of a hosted set is that of an object of the directory
abbrev pub Listed : Shape → ℕ → Type 0
Listed sh set = set < 2 ^ length sh.objects

-- the lent bytes are whole slots, not too many, and the tail is not above them
pub record GoodFrame (sh : Shape) (l : Lent) : Type 0 where
  pub slots : ℕ
  pub whole : length l.bytes ≡ sh.layout.slot_size * slots
  pub few : slots ≤ most_slots
  pub used : l.tail ≤ slots

-- no entry below the tail breaks the slot rules
abbrev pub AllGood : Shape → Log → Type 0
AllGood sh log = (p : ℕ) → p < log.tail → good_at sh log p ≡ true

-- an update with number n below p makes this write
pub record SetAside (log : Log) (n p : ℕ) (w : Write) : Type 0 where
  pub at : ℕ
  pub writes : List Write
  pub below : at < p
  pub here : log.entry at ≡ numbered n writes
  pub one : Memᴰ w writes

-- number n has a commit record below p
abbrev pub Committed : Log → ℕ → ℕ → Type 0
Committed log n p = (q : ℕ) × (c : Condition) × (q < p) × (log.entry q ≡ commit n c)

-- a decision record below p names the commit record at q
abbrev pub Decided : Log → ℕ → ℕ → Type 0
Decided log q p = (d : ℕ) × (r : Decision) × (d < p) × (log.entry d ≡ decision r) × (r.offset ≡ q)

-- ---- commit records

-- some cell that was read has another version than the read's
abbrev pub Stale : Holds → Condition → Type 0
Stale cells c = (x : Read) × Memᴰ x c.reads × (version_in (cells x.object x.key) ≡ x.version → ⊥)

-- it names this transaction number
abbrev pub Names : Condition → ℕ → Type 0
Names c m = (m ≡ 0 → ⊥) × ((c.first ≡ m) ⊎ (c.second ≡ m))

-- a number that it names has not committed
abbrev pub Unmet : (ℕ → Type 0) → Condition → Type 0
Unmet Won c = (m : ℕ) × Names c m × (Won m → ⊥)

-- it aborts over these cells, after these numbers committed: a read is stale, or a number is unmet
abbrev pub Aborts : Holds → (ℕ → Type 0) → Condition → Type 0
Aborts cells Won c = Stale cells c ⊎ Unmet Won c

-- in a run, and over cells of a replica with the numbers that committed below p in the whole log
abbrev pub AbortsIn : Run → Condition → Type 0
AbortsIn s c = Aborts s.cells (λ m. s.won m ≡ true) c

abbrev pub AbortsAt : Log → ℕ → Holds → Condition → Type 0
AbortsAt log p cells c = Aborts cells (λ m. mem m (whole log p).won ≡ true) c

-- number n has a commit record below p that does not abort there, by the whole log below it
abbrev pub Won : Log → ℕ → ℕ → Type 0
Won log n p = (q : ℕ) × (c : Condition) × (q < p) × (log.entry q ≡ commit n c) × (AbortsAt log q (lookup (whole log q).cells) c → ⊥)

-- the commit record of number n at p is of one of the set's objects: an update of its number writes it
abbrev pub Concerns : Log → List ℕ → ℕ → ℕ → Type 0
Concerns log set n p = (w : Write) × SetAside log n p w × (mem w.object set ≡ true)

-- it reads an object outside the set, as it counts to do also where it names a number and the set is not the whole directory
abbrev pub Outside : Shape → List ℕ → Condition → Type 0
Outside sh set c = ((x : Read) × Memᴰ x c.reads × (mem x.object set ≡ false))
    ⊎ ((m : ℕ) × Names c m × (o : ℕ) × (is_object sh o ≡ true) × (mem o set ≡ false))

-- at q stands a commit record of the set's objects that reads an object outside the set, and that no decision record below the
-- tail names
pub record Blocked (sh : Shape) (log : Log) (set : List ℕ) (q : ℕ) : Type 0 where
  pub number : ℕ
  pub condition : Condition
  pub here : log.entry q ≡ commit number condition
  pub concerns : Concerns log set number q
  pub outside : Outside sh set condition
  pub undecided : Decided log q log.tail → ⊥

-- ---- plays

-- each row is of a smaller object than the next, or of the same and a smaller key
abbrev pub InOrder : List Cell → Type 0
InOrder [] = Unit {0}
InOrder (c ∷ []) = Unit {0}
InOrder (c ∷ d ∷ cs) = ((c.object < d.object) ⊎ ((c.object ≡ d.object) × (c.key < d.key))) × InOrder (d ∷ cs)

-- the record and the stop of a play: a hosted set of listed objects, the counted cells within the table and in order, and a stop from the position to the tail
pub record Fit (sh : Shape) (tail : ℕ) (r : Carried) (stop : ℕ) : Type 0 where
  pub hosting : r.replica.hosting ≡ 0 → ⊥
  pub listed : Listed sh r.replica.hosting
  pub counted : r.replica.count ≤ capacity r.table
  pub ordered : InOrder (cells_of r.table r.replica.count)
  pub onward : r.replica.position ≤ stop
  pub within : stop ≤ tail

-- nothing refuses the play
pub record Playable (sh : Shape) (l : Lent) (r : Carried) (stop : ℕ) : Type 0 where
  pub directed : Directed sh
  pub framed : GoodFrame sh l
  pub good : AllGood sh (in_log sh l)
  pub fit : Fit sh l.tail r stop

-- how a play ends that nothing refused: at its stop, or before it, waiting or without room
pub data Ended (stop : ℕ) (out : Left) : Type 0 where
  there : out.answer ≡ done tt → out.replica.position ≡ stop → Ended stop out
  waiting : out.answer ≡ plainly 12 → out.replica.position < stop → Ended stop out
  no_room : out.answer ≡ plainly 13 → out.replica.position < stop → Ended stop out

-- the writes that an entry makes where it is played: a plain update its own, a commit record those of its number
abbrev pub Makes : Log → ℕ → List Write → Type 0
Makes log p ws = (log.entry p ≡ plain ws) ⊎ ((n : ℕ) × (c : Condition) × (log.entry p ≡ commit n c) × (ws ≡ writes_of log n p))

-- ---- appends

-- these writes are of at most n objects
abbrev pub AtMost : ℕ → (Write → Type 0) → Type 0
AtMost n Made = (os : List ℕ) × (length os ≤ n) × ((w : Write) → Made w → mem w.object os ≡ true)

-- a write of a listed cell: a put, or a remove with the value 0; the value fits its field
pub record Writes (sh : Shape) (w : Write) : Type 0 where
  pub cell : is_cell sh w.object w.key ≡ true
  pub operation : (w.operation ≡ 1) ⊎ ((w.operation ≡ 2) × (w.value ≡ 0))
  pub small : w.value < 2 ^ 32

pub record UpdateAllowed (sh : Shape) (log : Log) (n : ℕ) (items : List ℕ) : Type 0 where
  pub whole : length items ≡ item_size * length (writes_given items)
  pub number : n < 2 ^ 32
  pub some : 1 ≤ length (writes_given items)
  pub few : length (writes_given items) ≤ sh.layout.items
  pub each : (w : Write) → Memᴰ w (writes_given items) → Writes sh w
  pub narrow : AtMost sh.layout.headers (λ w. Memᴰ w (writes_given items))
  -- of a transaction: it has no commit record yet, and all its updates together are narrow
  pub uncommitted : (n ≡ 0 → ⊥) → Committed log n log.tail → ⊥
  pub together : (n ≡ 0 → ⊥) → AtMost sh.layout.headers (λ w. SetAside log n log.tail w ⊎ Memᴰ w (writes_given items))

-- each read is of a smaller object than the next, or of the same and a smaller key
abbrev pub Ascend : List Read → Type 0
Ascend [] = Unit {0}
Ascend (r ∷ []) = Unit {0}
Ascend (r ∷ s ∷ rs) = ((r.object < s.object) ⊎ ((r.object ≡ s.object) × (r.key < s.key))) × Ascend (s ∷ rs)

-- at e stands a plain update that writes the cell, or a commit record with an update of its number below it that writes the cell
pub data Stamps (log : Log) (e o k : ℕ) : Type 0 where
  updated : (ws : List Write) (w : Write) → log.entry e ≡ plain ws → Memᴰ w ws → w.object ≡ o → w.key ≡ k → Stamps log e o k
  committed : (n : ℕ) (c : Condition) (w : Write) → log.entry e ≡ commit n c → SetAside log n e w → w.object ≡ o → w.key ≡ k → Stamps log e o k

-- a read's version is 0, or one more than the offset of such an entry
abbrev pub Pointed : Log → Read → Type 0
Pointed log x = (x.version ≡ 0) ⊎ ((e : ℕ) × (x.version ≡ e + 1) × Stamps log e x.object x.key)

-- none is named, or one, which is the first, or two, the first the smaller one; each fits its field, and none is the transaction's own
pub record NamesAllowed (n : ℕ) (c : Condition) : Type 0 where
  pub small : (c.first < 2 ^ 32) × (c.second < 2 ^ 32)
  pub ordered : (c.second ≡ 0) ⊎ ((1 ≤ c.first) × (c.first < c.second))
  pub others : Names c n → ⊥

-- a commit that neither 3, 4 nor 6 stops
pub record CommitAsked (sh : Shape) (log : Log) (n : ℕ) (c : Condition) (items : List ℕ) : Type 0 where
  pub whole : length items ≡ item_size * length c.reads
  pub number : (1 ≤ n) × (n < 2 ^ 32)
  pub few : length c.reads ≤ sh.layout.items
  pub each : (x : Read) → Memᴰ x c.reads → (is_cell sh x.object x.key ≡ true) × (x.version ≤ log.tail)
  pub ascend : Ascend c.reads
  pub names : NamesAllowed n c
  pub uncommitted : Committed log n log.tail → ⊥
  pub updated : (w : Write) × SetAside log n log.tail w

pub record CommitAllowed (sh : Shape) (log : Log) (n : ℕ) (c : Condition) (items : List ℕ) : Type 0 where
  pub asked : CommitAsked sh log n c items
  pub pointed : (x : Read) → Memᴰ x c.reads → Pointed log x

pub record DecisionAllowed (log : Log) (o v : ℕ) : Type 0 where
  pub below : o < log.tail
  pub outcome : (v ≡ 1) ⊎ (v ≡ 2)
  pub commits : (n : ℕ) × (c : Condition) × (log.entry o ≡ commit n c)
  pub undecided : Decided log o log.tail → ⊥

-- a checkpoint's cell: of a listed key, with a version from 1 to the tail; the value fits its field
pub record Saves (sh : Shape) (tail o k : ℕ) (h : Held) : Type 0 where
  pub cell : is_cell sh o k ≡ true
  pub written : 1 ≤ h.version
  pub past : h.version ≤ tail
  pub small : (v : ℕ) → h.content ≡ some v → v < 2 ^ 32

pub record CheckpointAllowed (sh : Shape) (log : Log) (r : Replica) (table : List ℕ) (o : ℕ) : Type 0 where
  pub hosting : r.hosting ≡ 0 → ⊥
  pub listed : Listed sh r.hosting
  pub counted : r.count ≤ capacity table
  pub ordered : InOrder (cells_of table r.count)
  pub there : r.position ≡ log.tail
  pub hosts : mem o (hosted sh r.hosting) ≡ true
  pub each : (k : ℕ) (h : Held) → lookup (cells_of table r.count) o k ≡ some h → Saves sh log.tail o k h
  -- the written keys are few
  pub few : (ks : List ℕ) × (length ks ≤ sh.layout.items) × ((k : ℕ) (h : Held) → lookup (cells_of table r.count) o k ≡ some h → mem k ks ≡ true)

abbrev pub Allowed : Shape → Log → Request → Type 0
Allowed sh log (update n items) = UpdateAllowed sh log n items
Allowed sh log (commits n items a b) = CommitAllowed sh log n (condition_given items a b) items
Allowed sh log (decides o v) = DecisionAllowed log o v
Allowed sh log (saves r table o) = CheckpointAllowed sh log r table o

-- no refusal's condition stops the append (13.3)
pub record Unstopped (sh : Shape) (l : Lent) (q : Request) : Type 0 where
  pub directed : Directed sh
  pub framed : GoodFrame sh l
  pub good : AllGood sh (in_log sh l)
  pub free : sh.layout.slot_size * (l.tail + 1) ≤ length l.bytes
  pub allowed : Allowed sh (in_log sh l) q

-- ---- checkpoints

-- what a checkpoint's cells say of a key
abbrev pub saved_for : List Saved → ℕ → Option Held
saved_for [] k = none
saved_for (c ∷ cs) k = cond (eqb c.key k) (some c.held) (saved_for cs k)
