-- A summary that stands in lent bytes, read day by day; and its update, after which the bytes are those of the longer list's, worked out afresh.
use Prim.Native.Nat.{ℕ, suc, ◌+◌, ◌-◌, ◌*◌, ◌^◌, ◌≤◌, ◌<◌}
use mathlib.Core.Path.{◌≡◌, refl, sym, ap, ◌∙◌}
use mathlib.Core.Bool.{false}
use mathlib.Core.List.{List, [], ◌∷◌, ◌++◌, append_assoc}
use native.Mathlib.Omega.{arith}
use lib.ListN.{length, take, drop, length-append, length-take, take-append-drop}
use lib.Seq.{sets, sets-eq, length-take-le, take_at, drop_at, drop-drop, drop-append-add}
use Rattle.words.specs.Little.{bytes_of, read_of}
use Rattle.words.proofs.Laws.{length-bytes, read_among}
use Rattle.words.proofs.Stores.{sets-append}
use Rattle.finder.specs.declared.Window.{Window}
use Rattle.finder.specs.Samples.{Good}
use Rattle.finder.specs.Spans.{Span}
use Rattle.days.specs.Days.{day_of, days_between, days_of}
use Rattle.days.specs.Counts.{instants_in, instants_under, touching}
use Rattle.days.specs.Summary.{day_bytes, day_record, records_from, summary_of, updated}
use Rattle.days.specs.Given.{bad_spans}
use Rattle.days.specs.State.{next_from, Awaits}
use Rattle.days.proofs.Orderly.{good-span, next-far}
use Rattle.days.proofs.Touched.{touch_yes, none_before, none_after, touching-more, instants-more, stay, touching-most, instants-most}
use Rattle.days.proofs.Records.{length-days, length-summary, days-add, day-one, days-same}

-- ---- stores

-- what stands behind the stored bytes is as it was
drop-behind : (xs l : List ℕ) (i at : ℕ) → i + length xs ≤ length l → i + length xs ≤ at → drop at (sets l i xs) ≡ drop at l
drop-behind xs l i at fits behind =
    let m = at - (i + length xs) in
    let front : length (take i l ++ xs) ≡ i + length xs = length-append (take i l) xs ∙ ap (λ (k : ℕ). k + length xs) (length-take-le i l (omega arith)) in
    let at-is : at ≡ length (take i l ++ xs) + m = omega (arith, front) in
    let there : (i + length xs) + m ≡ at = omega arith in
    ap (drop at) (sets-eq xs l i fits)
    ∙ ap (λ (k : ℕ). drop k ((take i l ++ xs) ++ drop (i + length xs) l)) at-is
    ∙ drop-append-add (take i l ++ xs) (drop (i + length xs) l) m
    ∙ drop-drop m (i + length xs) l
    ∙ ap (λ (k : ℕ). drop k l) there

-- so it reads as it did
read_behind : (n : ℕ) (xs l : List ℕ) (i at : ℕ) → i + length xs ≤ length l → i + length xs ≤ at → read_of n (sets l i xs) at ≡ read_of n l at
unfolding read_of
read_behind n xs l i at fits behind = rw (drop-behind xs l i at fits behind) refl

-- stored over as many bytes
sets_over : (p old new q : List ℕ) (i : ℕ) → length p ≡ i → length old ≡ length new → sets (p ++ (old ++ q)) i new ≡ p ++ (new ++ q)
sets_over p old new q i long same =
    let all = p ++ (old ++ q) in
    let fits : i + length new ≤ length all = rw (length-append p (old ++ q), length-append old q) (omega arith) in
    let rest : drop (i + length new) all ≡ q = sym (drop-drop (length new) i all) ∙ ap (drop (length new)) (drop_at p (old ++ q) i long) ∙ drop_at old q (length new) same in
    sets-eq new all i fits ∙ rw (take_at p (old ++ q) i long, rest) (append_assoc p new q)

-- ---- a summary in lent bytes

module _ (w : Window) (l : List Span) (lent : List ℕ) (stands : take (16 * days_of w) lent ≡ summary_of w l) where
  -- the lent bytes are as many, or more
  pub stands-room : 16 * days_of w ≤ length lent
  stands-room = omega (arith, length-take (16 * days_of w) lent, ap length stands, length-summary w l)

  pub stands-first : lent ≡ summary_of w l ++ drop (16 * days_of w) lent
  stands-first = sym (take-append-drop (16 * days_of w) lent) ∙ ap (λ (x : List ℕ). x ++ drop (16 * days_of w) lent) stands

  -- day d of them
  module _ (d : ℕ) (from : day_of w.t0 ≤ d) (to : d ≤ day_of w.t1) where
    abbrev ahead : ℕ
    ahead = d - day_of w.t0

    abbrev earlier : List ℕ
    earlier = records_from l (day_of w.t0) ahead

    abbrev later : List ℕ
    later = records_from l (suc d) (day_of w.t1 - d)

    length-earlier : length earlier ≡ 16 * ahead
    length-earlier = length-days l (day_of w.t0) ahead

    day-stands : lent ≡ earlier ++ (day_record l d ++ (later ++ drop (16 * days_of w) lent))
    unfolding summary_of days_between records_from
    day-stands =
        let n : days_of w ≡ ahead + suc (day_of w.t1 - d) = omega arith in
        let here : day_of w.t0 + ahead ≡ d = omega arith in
        let parts : summary_of w l ≡ earlier ++ (day_record l d ++ later) = rw (n, days-add l (day_of w.t0) ahead (suc (day_of w.t1 - d)), here) refl in
        stands-first
        ∙ ap (λ (x : List ℕ). x ++ drop (16 * days_of w) lent) parts
        ∙ append_assoc earlier (day_record l d ++ later) (drop (16 * days_of w) lent)
        ∙ ap (λ (x : List ℕ). earlier ++ x) (append_assoc (day_record l d) later (drop (16 * days_of w) lent))

    read-day : d < 256 ^ 4 → read_of 4 lent (16 * ahead) ≡ d
    unfolding day_record day_bytes
    read-day small =
        let q = bytes_of 4 (touching l d) ++ (bytes_of 8 (instants_in l d) ++ (later ++ drop (16 * days_of w) lent)) in
        read_among 4 d lent earlier q (16 * ahead) small length-earlier (day-stands ∙ simp append_assoc)

    read-intervals : touching l d < 256 ^ 4 → read_of 4 lent (16 * ahead + 4) ≡ touching l d
    unfolding day_record day_bytes
    read-intervals small =
        let q = bytes_of 8 (instants_in l d) ++ (later ++ drop (16 * days_of w) lent) in
        read_among 4 (touching l d) lent (earlier ++ bytes_of 4 d) q (16 * ahead + 4) small (length-append earlier (bytes_of 4 d) ∙ omega (arith, length-earlier, length-bytes 4 d)) (day-stands ∙ simp append_assoc)

    read-instants : instants_in l d < 256 ^ 8 → read_of 8 lent (16 * ahead + 8) ≡ instants_in l d
    unfolding day_record day_bytes
    read-instants small =
        let q = later ++ drop (16 * days_of w) lent in
        let p = earlier ++ (bytes_of 4 d ++ bytes_of 4 (touching l d)) in
        let long : length p ≡ 16 * ahead + 8 = simp (length-append, length-bytes) (omega (arith, length-earlier)) in
        read_among 8 (instants_in l d) lent p q (16 * ahead + 8) small long (day-stands ∙ simp append_assoc)

-- the intervals of a window are fewer than 2^32
few-listed : (w : Window) (l : List Span) → Good w → bad_spans w.t0 w.t1 l ≡ false → (d : ℕ) → touching l d < 256 ^ 4
few-listed w l good order d =
    let far = next-far w.t1 w.t0 l order in
    omega (arith, touching-most l d, far.0, far.1, good.window, good.end)

-- so the three numbers of the i-th day are read there
pub read-numbers : (w : Window) (l : List Span) (lent : List ℕ) → Good w → bad_spans w.t0 w.t1 l ≡ false → take (16 * days_of w) lent ≡ summary_of w l → (i : ℕ) → i < days_of w
    → let d = day_of w.t0 + i in (read_of 4 lent (16 * i) ≡ d) × (read_of 4 lent (16 * i + 4) ≡ touching l d) × (read_of 8 lent (16 * i + 8) ≡ instants_in l d)
unfolding days_between day_of
read-numbers w l lent good order stands i below =
    let d = day_of w.t0 + i in
    let from : day_of w.t0 ≤ d = omega arith in
    let to : d ≤ day_of w.t1 = omega (arith, good.window) in
    let at : d - day_of w.t0 ≡ i = omega arith in (
      ap (λ (k : ℕ). read_of 4 lent (16 * k)) (sym at) ∙ read-day w l lent stands d from to (omega (arith, good.end)),
      ap (λ (k : ℕ). read_of 4 lent (16 * k + 4)) (sym at) ∙ read-intervals w l lent stands d from to (few-listed w l good order d),
      ap (λ (k : ℕ). read_of 8 lent (16 * k + 8)) (sym at) ∙ read-instants w l lent stands d from to (omega (arith, instants-most l d)),
    )

-- ---- an interval that awaits

module _ (w : Window) (l : List Span) (s : Span) (lent : List ℕ) (a : Awaits w l s lent) where
  abbrev longer : List Span
  longer = l ++ s ∷ []

  -- it is inside the window
  pub lies : (w.t0 ≤ s.first) × (s.first ≤ s.last) × (s.last ≤ w.t1)
  lies =
      let g = good-span (next_from w.t0 l) w.t1 s a.next in
      let far = next-far w.t1 w.t0 l a.before in
      (omega (arith, g.1, far.0), g.0, g.2)

  -- and so are its days
  pub days_lie : (day_of w.t0 ≤ day_of s.first) × (day_of s.first ≤ day_of s.last) × (day_of s.last ≤ day_of w.t1) × (day_of w.t1 ≤ 31)
  unfolding day_of
  days_lie = (omega (arith, lies.0), omega (arith, lies.1), omega (arith, lies.2), omega (arith, a.good.end))

  -- the intervals before it are fewer than 2^32
  pub few : (d : ℕ) → touching l d + 1 < 256 ^ 4
  few d =
      let g = good-span (next_from w.t0 l) w.t1 s a.next in
      let far = next-far w.t1 w.t0 l a.before in
      omega (arith, touching-most l d, far.0, g.0, g.1, g.2, a.good.end)

  -- the record of a day that it touches
  day-more : (d : ℕ) → day_of s.first ≤ d → d ≤ day_of s.last → day_bytes d (touching l d + 1) (instants_in l d + instants_under s d) ≡ day_record longer d
  unfolding day_record
  day-more d from to =
      let yes = touch_yes s lies.1 d from to in
      let one : touching longer d ≡ touching l d + 1 = touching-more l s d ∙ rw yes refl in
      rw (one, instants-more w.t0 w.t1 l s a.before a.next d) refl

  -- ---- day by day

  abbrev first-at : ℕ
  first-at = 16 * (day_of s.first - day_of w.t0)

  -- the days before d are stored
  abbrev pub Stored : ℕ → List ℕ → Type 0
  Stored d out = out ≡ sets lent first-at (records_from longer (day_of s.first) (d - day_of s.first))

  pub stored-none : Stored (day_of s.first) lent
  unfolding records_from
  stored-none = let none : day_of s.first - day_of s.first ≡ 0 = omega arith in rw none refl

  module _ (d : ℕ) (out : List ℕ) (from : day_of s.first ≤ d) (to : d ≤ day_of s.last) (st : Stored d out) where
    behind : first-at + length (records_from longer (day_of s.first) (d - day_of s.first)) ≡ 16 * (d - day_of w.t0)
    behind = omega (arith, length-days longer (day_of s.first) (d - day_of s.first), days_lie.0)

    pub fits : 16 * (d - day_of w.t0) + 16 ≤ length lent
    unfolding days_between
    fits = omega (arith, stands-room w l lent a.stands, days_lie.2)

    -- so d's own record is as it was
    pub day-reads : (read_of 4 out (16 * (d - day_of w.t0) + 4) ≡ touching l d) × (read_of 8 out (16 * (d - day_of w.t0) + 8) ≡ instants_in l d)
    day-reads =
        let xs = records_from longer (day_of s.first) (d - day_of s.first) in
        let earlier : day_of w.t0 ≤ d = omega (arith, days_lie.0) in
        let inside : d ≤ day_of w.t1 = omega (arith, days_lie.2) in (
          ap (λ (x : List ℕ). read_of 4 x (16 * (d - day_of w.t0) + 4)) st
              ∙ read_behind 4 xs lent first-at (16 * (d - day_of w.t0) + 4) (omega (arith, behind, fits)) (omega (arith, behind))
              ∙ read-intervals w l lent a.stands d earlier inside (omega (arith, few d)),
          ap (λ (x : List ℕ). read_of 8 x (16 * (d - day_of w.t0) + 8)) st
              ∙ read_behind 8 xs lent first-at (16 * (d - day_of w.t0) + 8) (omega (arith, behind, fits)) (omega (arith, behind))
              ∙ read-instants w l lent a.stands d earlier inside (omega (arith, instants-most l d)),
        )

    pub stored_more : (out' : List ℕ) → out' ≡ sets out (16 * (d - day_of w.t0)) (day_bytes d (touching l d + 1) (instants_in l d + instants_under s d)) → Stored (d + 1) out'
    stored_more out' put =
        let xs = records_from longer (day_of s.first) (d - day_of s.first) in
        let one : (d + 1) - day_of s.first ≡ (d - day_of s.first) + 1 = omega arith in
        let here : day_of s.first + (d - day_of s.first) ≡ d = omega arith in
        let more : records_from longer (day_of s.first) ((d + 1) - day_of s.first) ≡ xs ++ day_record longer d =
        ap (records_from longer (day_of s.first)) one ∙ days-add longer (day_of s.first) (d - day_of s.first) 1 ∙ rw here (ap (λ (r : List ℕ). xs ++ r) (day-one longer d)) in
        put ∙ rw (st, day-more d from to, more, sets-append xs (day_record longer d) lent first-at, behind) refl

  pub stored-all : (out : List ℕ) (d : ℕ) → d ≡ day_of s.last + 1 → Stored d out → out ≡ updated w l s lent
  unfolding updated days_between
  stored-all out d end st = let n : d - day_of s.first ≡ day_of s.last - day_of s.first + 1 = omega (arith, days_lie.1) in st ∙ rw n refl

  -- ---- afresh

  -- the bytes are those of the longer list's summary, and behind it those that stood there
  pub afresh : updated w l s lent ≡ summary_of w longer ++ drop (16 * days_of w) lent
  unfolding updated summary_of days_between
  afresh =
      let t0 = day_of w.t0 in
      let f = day_of s.first in
      let e = day_of s.last in
      let t1 = day_of w.t1 in
      let rest = drop (16 * days_of w) lent in
      let n : days_of w ≡ (f - t0) + ((e - f + 1) + (t1 - e)) = omega (arith, days_lie) in
      let to-first : t0 + (f - t0) ≡ f = omega (arith, days_lie.0) in
      let to_last : f + (e - f + 1) ≡ e + 1 = omega (arith, days_lie.1) in
      let parts : (m : List Span) → records_from m t0 (days_of w) ++ rest ≡ records_from m t0 (f - t0) ++ (records_from m f (e - f + 1) ++ (records_from m (e + 1) (t1 - e) ++ rest)) = λ m. rw (n, days-add m t0 (f - t0) ((e - f + 1) + (t1 - e)), to-first, days-add m f (e - f + 1) (t1 - e), to_last) (simp append_assoc) in
      let before = days-same longer l t0 (f - t0) (λ j p q. stay w.t0 w.t1 l s a.before a.next j (none_before s lies.1 j (omega arith))) in
      let after = days-same longer l (e + 1) (t1 - e) (λ j p q. stay w.t0 w.t1 l s a.before a.next j (none_after s lies.1 j (omega arith))) in
      let same : length (records_from l f (e - f + 1)) ≡ length (records_from longer f (e - f + 1)) = length-days l f (e - f + 1) ∙ sym (length-days longer f (e - f + 1)) in
      ap (λ (x : List ℕ). sets x (16 * (f - t0)) (records_from longer f (e - f + 1))) (stands-first w l lent a.stands ∙ parts l)
      ∙ sets_over (records_from l t0 (f - t0)) (records_from l f (e - f + 1)) (records_from longer f (e - f + 1)) (records_from l (e + 1) (t1 - e) ++ rest) (16 * (f - t0)) (length-days l t0 (f - t0)) same
      ∙ rw (sym before, sym after) (sym (parts longer))
