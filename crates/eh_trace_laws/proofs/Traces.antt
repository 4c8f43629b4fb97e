-- The lines of the trace.
use Rattle.std.specs.Prelude.{codes, decimal, map, flat_map, replicate, nat_le}
use Rattle.std.proofs.Common.{◌≡◌, ◌⊎◌, inl, inr, ℕ, zero, suc, ◌-◌, ◌==◌, ◌<◌, ◌≤◌, ◌&&◌, Bool, true, false, cond, List, [], ◌∷◌, ◌++◌, length, take, Option, Some, None, refl, sym, ap, subst, ◌∙◌, arith, eqb-true}
use Rattle.std.proofs.lemmas.Bool.{le-leb, lt-leb, lt-ltb, le-ltb, true≢false}
use Rattle.std.proofs.lemmas.List.{take_all, append-nil}
use Rattle.eh_word.specs.Address.{address_text}
use Rattle.elf_image.specs.Functions.{Function}
use Rattle.elf_image.specs.Image.{Image}
use Rattle.eh_trace.specs.Text.{event_line, line_of, thrown_text, entered_text, more_line, place_in, place_text, named_place, printable_byte, without_zeros, offset_text, type_text, bytes_text, holder, all_of}
use Rattle.eh_trace.specs.declared.event.Event.{Event}
use Rattle.eh_trace.specs.declared.event.EventKind.{EventKind}
use Rattle.eh_trace_laws.specs.Traces.{IsPrinted, ArePrinted, EventsAreWritten, IsBare, IsWithoutZeros, TracesAreWritten}

events : (image : Image) (names : ℕ → List ℕ) (e : Event) → EventsAreWritten image names e
unfolding event_line thrown_text entered_text
events image names e = record {
  throw = λ h. ap (λ (k : EventKind). line_of k image names e) h;
  rethrow = λ h. ap (λ (k : EventKind). line_of k image names e) h;
  cleanup = λ h. ap (λ (k : EventKind). line_of k image names e) h;
  catch = λ h. ap (λ (k : EventKind). line_of k image names e) h;
  unexpected = λ h. ap (λ (k : EventKind). line_of k image names e) h;
}

-- ---- names

printed_is : (b : ℕ) → IsPrinted b → printable_byte b ≡ b
printed_is b h = ap (λ c. cond (c && nat_le b 126) b 63) (le-leb 33 b h.0) ∙ ap (λ c. cond c b 63) (le-leb b 126 h.1)

not_printed : (b : ℕ) → (b < 33) ⊎ (126 < b) → printable_byte b ≡ 63
not_printed b (inl h) = ap (λ c. cond (c && nat_le b 126) b 63) (lt-leb 33 b h)
not_printed b (inr h) = ap (λ c. cond (nat_le 33 b && c) b 63) (lt-leb b 126 h) ∙ either (nat_le 33 b)
  where
    either : (c : Bool) → cond (c && false) b 63 ≡ 63
    either true = refl
    either false = refl

all_printed : (bs : List ℕ) → ArePrinted bs → map printable_byte bs ≡ bs
all_printed [] h = refl
all_printed (b ∷ bs) h = ap (λ c. c ∷ map printable_byte bs) (printed_is b h.0) ∙ ap (λ cs. b ∷ cs) (all_printed bs h.1)

front_printed : (n : ℕ) (bs : List ℕ) → ArePrinted bs → map printable_byte (take n bs) ≡ take n bs
front_printed zero bs h = refl
front_printed (suc n) [] h = refl
front_printed (suc n) (b ∷ bs) h = ap (λ c. c ∷ map printable_byte (take n bs)) (printed_is b h.0) ∙ ap (λ cs. b ∷ cs) (front_printed n bs h.1)

whole : (name : List ℕ) → 1 ≤ length name → length name ≤ 64 → ArePrinted name → type_text name ≡ name
unfolding type_text
whole [] some few h = absurd (omega (arith, some))
whole (b ∷ more) some few h = front_printed 64 (b ∷ more) h ∙ take_all 64 (b ∷ more) few

front : (name : List ℕ) → 64 < length name → ArePrinted name → type_text name ≡ take 64 name
unfolding type_text
front [] long h = absurd (omega (arith, long))
front (b ∷ more) long h = front_printed 64 (b ∷ more) h

one : (b : ℕ) → (b < 33) ⊎ (126 < b) → type_text (b ∷ []) ≡ codes "?"
unfolding type_text
one b h = ap (λ c. c ∷ []) (not_printed b h)

empty : type_text [] ≡ codes "?"
unfolding type_text
empty = refl

no_bytes : bytes_text [] ≡ codes "-"
unfolding bytes_text
no_bytes = refl

-- ---- places

record Stripped (ds : List ℕ) : Type 0 where
  zeros : ℕ
  is : ds ≡ replicate zeros 48 ++ without_zeros ds
  bare : IsBare (without_zeros ds)

stripped : (d : ℕ) (ds : List ℕ) → Stripped (d ∷ ds)
unfolding without_zeros
stripped d [] = record { zeros = 0; is = refl; bare = tt }
stripped d (e ∷ more) = go (d == 48) refl (stripped e more)
  where
    go : (b : Bool) → (d == 48) ≡ b → Stripped (e ∷ more) → Stripped (d ∷ e ∷ more)
    go true z s =
        let same : without_zeros (d ∷ e ∷ more) ≡ without_zeros (e ∷ more) = ap (λ c. cond c (without_zeros (e ∷ more)) (d ∷ e ∷ more)) z in
        record {
          zeros = suc s.zeros;
          is = ap (λ c. c ∷ e ∷ more) (eqb-true d 48 z) ∙ ap (λ ds. 48 ∷ ds) (s.is ∙ ap (λ ds. replicate s.zeros 48 ++ ds) (sym same));
          bare = subst IsBare (sym same) s.bare;
        }
    go false z s =
        let same : without_zeros (d ∷ e ∷ more) ≡ d ∷ e ∷ more = ap (λ c. cond c (without_zeros (e ∷ more)) (d ∷ e ∷ more)) z in
        record {
          zeros = 0;
          is = sym same;
          bare = subst IsBare (sym same) (λ (w : d ≡ 48). true≢false (sym (ap (λ c. c == 48) w) ∙ z));
        }

offset : (n : ℕ) → IsWithoutZeros n
offset n = let s : Stripped (address_text n) = stripped _ _ in record { zeros = s.zeros; is = s.is; bare = s.bare }

inside : (image : Image) (f : Function) (a : ℕ) → holder image a ≡ Some f → place_text image a ≡ named_place f.name (a - f.start)
unfolding place_text
inside image f a h = ap (λ (o : Option Function). place_in o a) h

outside : (image : Image) (a : ℕ) → holder image a ≡ None → place_text image a ≡ codes "?+" ++ offset_text a
unfolding place_text
outside image a h = ap (λ (o : Option Function). place_in o a) h

named : (name : List ℕ) (offset : ℕ) → ArePrinted name → named_place name offset ≡ name ++ codes "+" ++ offset_text offset
named name offset h = ap (λ bs. bs ++ codes "+" ++ offset_text offset) (all_printed name h)

-- ---- traces

few : (all : ℕ) → all ≤ 10000 → more_line all ≡ []
unfolding more_line
few all h = ap (λ c. cond c (codes "and " ++ decimal (all - 10000) ++ codes " more events\n") []) (le-ltb 10000 all h)

more : (all : ℕ) → 10000 < all → more_line all ≡ codes "and " ++ decimal (all - 10000) ++ codes " more events\n"
unfolding more_line
more all h = ap (λ c. cond c (codes "and " ++ decimal (all - 10000) ++ codes " more events\n") []) (lt-ltb 10000 all h)

pub traces : TracesAreWritten
traces = record {
  events = events;
  names = record { empty = empty; whole = whole; front = front; other = one; no_bytes = no_bytes };
  places = record { inside = inside; outside = outside; offset = offset; named = named };
  few = λ image names t h. ap (λ line. flat_map (event_line image names) t.kept ++ line) (few (all_of t) h) ∙ append-nil (flat_map (event_line image names) t.kept);
  more = λ image names t h. ap (λ line. flat_map (event_line image names) t.kept ++ line) (more (all_of t) h);
}
