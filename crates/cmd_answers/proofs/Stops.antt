-- The statuses of calls that ended early.
use Rattle.std.proofs.Common.{◌≡◌, ℕ, ◌≤◌, true, Option, Some, None, IfSome, refl, subst, arith}
use Rattle.std.proofs.lemmas.Bool.{false≢true}
use Rattle.cmd_answers.specs.declared.stop.Stop.{Stop}
use Rattle.cmd_answers.specs.declared.stop.Stop.TheVariants.{Read, Write, Memory}
use Rattle.cmd_answers.specs.Statuses.{is_conclusive}
use Rattle.cmd_answers.specs.Writes.{stop_status}

-- what is told of something may be told of it otherwise
pub some_more : {X : Type 0} (o : Option X) (P Q : X → Type 0) → ((x : X) → P x → Q x) → IfSome o P → IfSome o Q
some_more None P Q f h = tt
some_more (Some x) P Q f h = f x h

-- a status that is conclusive is none of 7, 8 and 9
pub none_of : (status other : ℕ) → is_conclusive status ≡ true → status ≡ other → is_conclusive other ≡ true
none_of status other h e = subst (λ (s : ℕ). is_conclusive s ≡ true) e h

-- 7, 8 and 9 are no conclusive statuses
pub inconclusive : (stop : Stop) → is_conclusive (stop_status stop) ≡ true → ⊥
inconclusive Read h = false≢true h
inconclusive Write h = false≢true h
inconclusive Memory h = false≢true h

pub bounded : (stop : Stop) → stop_status stop ≤ 10
bounded Read = omega arith
bounded Write = omega arith
bounded Memory = omega arith

pub read_is : (stop : Stop) → stop_status stop ≡ 7 → stop ≡ Read
read_is Read e = refl
read_is Write e = absurd (omega (arith, e))
read_is Memory e = absurd (omega (arith, e))

pub write_is : (stop : Stop) → stop_status stop ≡ 8 → stop ≡ Write
write_is Read e = absurd (omega (arith, e))
write_is Write e = refl
write_is Memory e = absurd (omega (arith, e))

pub memory_is : (stop : Stop) → stop_status stop ≡ 9 → stop ≡ Memory
memory_is Read e = absurd (omega (arith, e))
memory_is Write e = absurd (omega (arith, e))
memory_is Memory e = refl

-- what stopped was want of memory, where it was neither a read nor a write
pub want : (stop : Stop) → (stop ≡ Read → ⊥) → (stop ≡ Write → ⊥) → stop_status stop ≡ 9
want Read read write = absurd (read refl)
want Write read write = absurd (write refl)
want Memory read write = refl
