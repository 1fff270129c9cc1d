-- A play across one commit record by a replica that decides it alone, on any good log and any table bytes: it decides reads by its own
-- cells and names by the whole log, so it keeps its cells where a read is stale or a number unmet, and else makes the number's hosted writes where they have room.
use Prim.Native.Nat.{ℕ, ◌+◌, ◌-◌, ◌<◌, ◌≤◌}
use mathlib.Core.Path.{◌≡◌, refl, ap, ◌∙◌}
use mathlib.Core.Bool.{Bool, true, false, cond}
use mathlib.Core.List.{List}
use mathlib.Core.Option.{some}
use native.Mathlib.Omega.{arith}
use native.Mathlib.Nat.{add-zero}
use borrow.Author.Tests.{leb-false}
use lib.Dec.{leb}
use lib.ListN.{length}
use Rattle.lists.specs.Tests.{clash}
use Rattle.lists.specs.Sets.{all, mem, meets}
use Rattle.model.specs.Objects.{Shape}
use Rattle.model.specs.Entries.{Write, Condition, commit, Log, writes_of, header_objects, commit_objects}
use Rattle.model.specs.Slot.{log_in, most_slots, ok_shape}
use Rattle.model.specs.Rules.{ok_write}
use Rattle.model.specs.Table.{Cell, cells_of, table_with, capacity, lookup, apply}
use Rattle.model.specs.Play.{Played, going, lacks, commits_over, whole, alone, make, finish, step, play}
use Rattle.model.specs.Answers.{done}
use Rattle.model.specs.Replica.{Left, plainly, left_by}
use Rattle.model.specs.Run.{made_all}
use Rattle.model.specs.Histories.{Lent, in_log, is_refused, Carried, play_on, hosts}
use Rattle.model.specs.Terms.{AbortsAt}
use Rattle.model.specs.Claims.{Alone, table_holds, AbortsAlone, ReplicaAborts}
use Rattle.laws.proofs.Tables.{length-cells, cells-back, table-back, cells_fit}
use Rattle.laws.proofs.Refusals.{below-good}
use Rattle.laws.proofs.Appends.{good-kept}
use Rattle.laws.proofs.Slots.{Kept, writes_ok}
use Rattle.claims.proofs.Terms.{words-concerns, words-frame}
use Rattle.claims.proofs.Cells.{apply-few, apply-fits}
use Rattle.claims.proofs.Aborts.{aborts-refuses, refuses-aborts}
use Rattle.claims.proofs.Names.{hosts-alone}
use Rattle.claims.proofs.Writes.{apply-looked}
use Rattle.claims.proofs.Audits.{tail-small}
use Rattle.claims.proofs.Leaves.{plays-so}

-- ---- the step at the commit record

module _ (sh : Shape) (log : Log) (set : List ℕ) (room p n : ℕ) (c : Condition) (here : log.entry p ≡ commit n c) where
  decides-alone : meets set (commit_objects log p n) ≡ true → alone sh set c ≡ true → (cs : List Cell)
      → play sh log set room p cs (p + 1 - p) ≡ finish set room p (writes_of log n p) cs (some (commits_over (lookup cs) (whole log p).won c))
  unfolding play step header_objects
  decides-alone m a cs =
      let e : p + 1 - p ≡ 1 = omega arith in
      ap (play sh log set room p cs) e ∙ rw (add-zero, here, m, a)

-- ---- the play

module _ (sh : Shape) (shape : ok_shape sh ≡ true) (l : Lent) (r : Carried) (n : ℕ) (c : Condition) (given : Alone sh l r n c) where
  abbrev log : Log
  log = in_log sh l

  abbrev p : ℕ
  p = r.replica.position

  abbrev cs : List Cell
  cs = cells_of r.table r.replica.count

  abbrev ws : List Write
  ws = writes_of log n p

  abbrev room : ℕ
  room = capacity r.table

  kept : Kept sh log l.tail
  unfolding log_in
  kept = good-kept sh log (below-good sh log given.playable.good)

  low : p < l.tail
  low = omega (arith, given.playable.fit.within)

  small-tail : l.tail ≤ most_slots
  unfolding log_in
  small-tail = tail-small sh log (words-frame sh shape l given.playable.framed)

  crossed : play_on sh l r (p + 1) ≡ left_by r.replica.hosting (p + 1) r.table (finish (hosts sh r) room p ws cs (some (commits_over (lookup cs) (whole log p).won c)))
  crossed =
      plays-so sh shape l r (p + 1) given.playable
      ∙ ap (left_by r.replica.hosting (p + 1) r.table)
      (decides-alone sh log (hosts sh r) room p n c given.here (words-concerns log (hosts sh r) n p given.concerns)
      (hosts-alone sh (hosts sh r) c given.hosts_reads given.hosts_all) cs)

  -- the counted cells stored again are the table
  same_count : length cs ≡ r.replica.count
  same_count = length-cells r.table r.replica.count

  same-table : table_with r.table cs ≡ r.table
  same-table = table-back r.table given.bytes r.replica.count (omega (arith, given.playable.fit.counted))

  pub aborts-alone : AbortsAlone sh l r n c (play_on sh l r (p + 1))
  aborts-alone = rw crossed (go (commits_over (lookup cs) (whole log p).won c) refl)
    where
      out : Played → Left
      out x = left_by r.replica.hosting (p + 1) r.table x

      made : (ok : all (ok_write sh) ws ≡ true) (o k : ℕ) → lookup (cells_of (table_with r.table (apply (hosts sh r) (p + 1) ws cs)) (length (apply (hosts sh r) (p + 1) ws cs))) o k
          ≡ cond (mem o (hosts sh r)) (made_all (p + 1) ws (table_holds r) o k) (table_holds r o k)
      made ok o k =
          let few : l.tail ≤ most_slots = small-tail in
          ap (λ (ds : List Cell). lookup ds o k)
          (cells-back r.table (apply (hosts sh r) (p + 1) ws cs)
          (apply-fits sh shape (hosts sh r) (p + 1) (omega (arith, few, low)) ws cs ok (cells_fit r.table given.bytes r.replica.count)))
          ∙ apply-looked (hosts sh r) (p + 1) ws cs o k

      current : (AbortsAt log p (table_holds r) c → ⊥) → AbortsAlone sh l r n c (out (make (hosts sh r) room p ws cs))
      current fresh = by (leb (length (apply (hosts sh r) (p + 1) ws cs)) room) refl
        where
          by : (b : Bool) → leb (length (apply (hosts sh r) (p + 1) ws cs)) room ≡ b → AbortsAlone sh l r n c (out (cond b (going (apply (hosts sh r) (p + 1) ws cs)) (lacks p cs)))
          by true e = record {
            aborts = λ s. absurd (fresh s);
            makes = λ f d. made (writes_ok sh log n p (λ o h. kept o (omega (arith, low))));
            stays = λ d. absurd (d refl);
            needs = λ d. absurd (d refl);
          }
          by false e = record {
            aborts = λ s. absurd (fresh s);
            makes = λ f d. clash true refl (ap is_refused d);
            stays = λ d i. record { answer = plainly 13; replica = record { hosting = r.replica.hosting; position = p; count = same_count i }; table = same-table i };
            needs = λ d. omega (arith, leb-false (length (apply (hosts sh r) (p + 1) ws cs)) room e, apply-few (hosts sh r) (p + 1) ws cs, same_count);
          }

      go : (b : Bool) → commits_over (lookup cs) (whole log p).won c ≡ b → AbortsAlone sh l r n c (out (finish (hosts sh r) room p ws cs (some b)))
      go true e = current (λ s. clash (commits_over (lookup cs) (whole log p).won c) e (aborts-refuses (lookup cs) (whole log p).won c s))
      go false e = record {
        aborts = λ s i. record { answer = done tt; replica = record { hosting = r.replica.hosting; position = p + 1; count = same_count i }; table = same-table i };
        makes = λ f d. absurd (f (refuses-aborts (lookup cs) (whole log p).won c e));
        stays = λ d. absurd (d refl);
        needs = λ d. absurd (d refl);
      }

pub replica-aborts : (sh : Shape) → ok_shape sh ≡ true → ReplicaAborts sh
replica-aborts sh shape l r n c given = aborts-alone sh shape l r n c given
