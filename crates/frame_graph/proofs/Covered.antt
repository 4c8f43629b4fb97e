-- An entry that covers an address covers each one between its start and that one.
use Rattle.std.proofs.Common.{ℕ, ◌≡◌, ◌≤◌, nat_le, Bool, true, false, if◌then◌else◌, List, [], ◌∷◌, fold, Option, Some, None, refl, sym, ap, ◌∙◌, subst, arith}
use Rattle.std.proofs.lemmas.Bool.{le-leb}
use Rattle.std.proofs.lemmas.Bool.Decides.{nat_tests}
use Rattle.elf_image.specs.Image.{Image}
use Rattle.eh_index.specs.eh_codes.declared.row.Entry.{Entry}
use Rattle.eh_index.specs.Covering.{covering}
use Rattle.eh_index.specs.Rows.{entries_of}
use Rattle.frame_graph.specs.EntryCaching.{CoversTo, IsBetween}

-- the search for the entry of an address, of which one was found
abbrev found_from : ℕ → Option Entry → List Entry → Option Entry
found_from a found entries = fold (λ found e. if nat_le e.start a then Some e else found) found entries

abbrev next : ℕ → Option Entry → Entry → Option Entry
next a found f = if nat_le f.start a then Some f else found

not_below : (x a b : ℕ) → a ≤ b → nat_le x b ≡ false → nat_le x a ≡ false
not_below x a b h n = grind (arith, nat_tests)

below : (x a : ℕ) → x ≤ a → nat_le x a ≡ true
below x a h = le-leb x a h

-- of two tests of an entry the second holds only where the first does, and it holds of the entry that is found
pick : (high low : Bool) (e f : Entry) (u v : Option Entry) → (high ≡ false → low ≡ false) → (f ≡ e → low ≡ true) → (u ≡ Some e → v ≡ Some e) → (if high then Some f else u) ≡ Some e
    → (if low then Some f else v) ≡ Some e
pick true true e f u v down same h is = is
pick true false e f u v down same h is =
    let one : f ≡ e = cc in
    let t : false ≡ true = same one in cc
pick false true e f u v down same h is =
    let t : true ≡ false = down refl in cc
pick false false e f u v down same h is = h is

-- one entry more: what the search up to the higher address finds, the other finds too
step : (a last : ℕ) (e f : Entry) (u v : Option Entry) → e.start ≤ a → a ≤ last → (u ≡ Some e → v ≡ Some e) → next last u f ≡ Some e → next a v f ≡ Some e
step a last e f u v low high h is =
    pick (nat_le f.start last) (nat_le f.start a) e f u v (λ n. not_below f.start a last high n) (λ q. below f.start a (subst (λ (g : Entry). g.start ≤ a) (sym q) low)) h is

between : (a last : ℕ) (e : Entry) (entries : List Entry) (u v : Option Entry) → e.start ≤ a → a ≤ last → (u ≡ Some e → v ≡ Some e) → found_from last u entries ≡ Some e
    → found_from a v entries ≡ Some e
between a last e [] u v low high h is = h is
between a last e (f ∷ more) u v low high h is = between a last e more (next last u f) (next a v f) low high (λ g. step a last e f u v low high h g) is

pub kept_at : (image t : Image) (kept : Option Entry) (last : Option ℕ) (a : ℕ) → image ≡ t → CoversTo image kept last → IsBetween kept last a → kept ≡ covering (entries_of t) a
kept_at image t None last a same to inside = absurd inside
kept_at image t (Some e) None a same to inside = absurd inside
kept_at image t (Some e) (Some last) a same to inside =
    sym (between a last e (entries_of image) None None inside.0 inside.1 (λ n. n) to) ∙ ap (λ (i : Image). covering (entries_of i) a) same
