use Rattle.std.proofs.Common.{arith, rules, ◌≡◌, ◌<◌, ◌≤◌, ◌++◌, ℕ, List, Option, Some, None, IfSome, length, take, append-nil, sym, ap, subst, ◌∙◌}
use Rattle.std.proofs.lemmas.List.{length-append}
use Rattle.std.proofs.KnownBytes.{Consumes-trans, Consumes-nil, Consumes-whole}
use Rattle.std.specs.Io.KnownBytes.{Consumes, IsAtEnd}
use Rattle.eh_port.specs.FileList.{within}
use Rattle.eh_port.specs.declared.files.FileAnswer.TheVariants.{Found, TooLong}
use Rattle.eh_port.proofs.files.host.read_within.Goals as goal

whole : (a b : Option (List ℕ)) (bs : List ℕ) (most : ℕ) → Consumes a b bs → IsAtEnd b → length bs ≤ most → IfSome a (λ xs. Found bs ≡ within most (Some xs))
whole a b bs most p q short = Consumes-whole a b bs (λ xs. Found bs ≡ within most (Some xs)) p q (search rules)

longer : (a b : Option (List ℕ)) (bs : List ℕ) (most : ℕ) → Consumes a b bs → most < length bs → IfSome a (λ xs. TooLong ≡ within most (Some xs))
longer None b bs most p long = tt
longer (Some x) None bs most p long = absurd p
longer (Some x) (Some y) bs most p long =
    let past : most < length x = omega (arith, ap length p, length-append bs y) in
    search (rules, past)

none : (n : ℕ) (bs cs : List ℕ) → n ≡ 0 → bs ++ take n cs ≡ bs
none n bs cs e = ap (λ k. bs ++ take k cs) e ∙ append-nil bs

more : (a b c : Option (List ℕ)) (bs cs new : List ℕ) → Consumes a b bs → Consumes b c cs → new ≡ bs ++ cs → Consumes a c new
more a b c bs cs new p q e = subst (Consumes a c) (sym e) (Consumes-trans a b c bs cs p q)

pub loop-init : goal.loop-init
loop-init g c = search (rules, Consumes-nil)

pub returns-in-Ok-eq0 : goal.returns-in-Ok-eq0
returns-in-Ok-eq0 g c =
    let room : 0 < length c.read.new.buf = search rules in
    let all = more _ _ _ _ _ _ c.loop.invariant.sofar c.in-Ok-eq0.ensures.bytes.0 (sym (none _ _ _ c.in-Ok-eq0.field-0-test)) in
    rw c.of_vec.ensures (whole _ _ _ _ all (c.in-Ok-eq0.ensures.bytes.1 c.in-Ok-eq0.field-0-test room) c.loop.invariant.short)

pub returns-then-len-most : goal.returns-then-len-most
returns-then-len-most g c =
    let grown : c.extend_from_slice.new.self.items ≡ c.loop.bytes.items ++ take c.in-Ok.count c.read.new.buf = search rules in
    let long : c.args.most < length c.extend_from_slice.new.self.items = search rules in
    longer _ _ _ _ (more _ _ _ _ _ _ c.loop.invariant.sofar c.in-Ok.ensures.bytes.0 grown) long

pub loop-preserved : goal.loop-preserved
loop-preserved g c =
    let grown : c.extend_from_slice.new.self.items ≡ c.loop.bytes.items ++ take c.in-Ok.count c.read.new.buf = search rules in
    record {
      room = search rules;
      sofar = more _ _ _ _ _ _ c.loop.invariant.sofar c.in-Ok.ensures.bytes.0 grown;
      short = search rules;
    }
