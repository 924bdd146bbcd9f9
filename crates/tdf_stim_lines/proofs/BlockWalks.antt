-- Blocks and their parts: a head, what follows it, and `end`.
use Rattle.std.proofs.Common.{◌≡◌, ◌≢◌, ◌∙◌, ◌&&◌, ◌==◌, ℕ, ◌+◌, ◌<◌, ◌≤◌, Bool, true, false, List, [], ◌∷◌, ◌++◌, length, map, min, refl, ap, arith}
use Rattle.std.proofs.lemmas.Bool.Decides.{nat_tests}
use Rattle.std.proofs.lemmas.List.{length-append, length-map}
use Rattle.std.specs.List.{flat_map}
use Rattle.tdf_lang_printer.specs.Canon.{attr_line, attributes_lines, de_line, dont_lines, initial_line, initialize_lines, member_line, part_lines, process_lines, sense_line, stmts_lines, tdf_line}
use Rattle.tdf_lang_tree.specs.Forms.{Form, FEnd, FProcessing, FChangeAttributes, FReinitialize}
use Rattle.tdf_lang_tree.specs.Pure.{PureBody, PureStmts, Done, More, PureTdfLine, PureTdf, PureDeLine, PureProcess, PureDe, PureComposite}
use Rattle.tdf_lang_tree.specs.declared.blocks.Attr.{Attr}
use Rattle.tdf_lang_tree.specs.declared.blocks.Initial.{Initial}
use Rattle.tdf_lang_tree.specs.declared.blocks.Member.{Member}
use Rattle.tdf_lang_tree.specs.declared.blocks.Sense.{Sense}
use Rattle.tdf_stim_lines.specs.Numbered.{attr_at, body_at, composite_at, de_at, de_line_at, initial_at, lines_at, member_at, parts_at, process_at, sense_at, tdf_at, tdf_line_at}
use Rattle.tdf_stim_lines.specs.machine.Walk.{Walks, Beginning, attributes_at, attributes_size, beginning_at, beginning_size, body_size, composite_size, de_size, dont_size, last_number, part_at, part_size, process_size, processes_size, tdf_size}

-- a part that has no line
pub empty_walks : {P : Type 0} (size : P → ℕ) (put : ℕ → P → P) (at : ℕ) (old new : P) → size old ≡ 0 → new ≡ put at old → Walks size put at at old new
empty_walks size put at old new none same = record { later = omega arith; next_is = λ few. omega (arith, none); new_is = λ few. same }

-- ---- `set_attributes`

pub attributes_none : (at : ℕ) (list : List Attr) → length list ≡ 0 → Walks attributes_size attributes_at at at list list
attributes_none at [] none = record { later = omega arith; next_is = λ few. omega arith; new_is = λ few. refl }
attributes_none at (x ∷ xs) none = absurd (omega arith)

pub attributes_long : (list : List Attr) → length list ≢ 0 → attributes_size list ≡ length list + 2
attributes_long [] some = absurd (some refl)
attributes_long (x ∷ xs) some = omega (arith, length-append (map attr_line (x ∷ xs)) (FEnd ∷ []), length-map xs attr_line)

pub attributes_some : (at first end after : ℕ) (old new : List Attr) → length old ≢ 0 → at ≤ last_number → first ≡ min (at + 1) last_number → Walks length (lines_at attr_at) first end old new
    → end ≤ last_number → after ≡ min (end + 1) last_number → Walks attributes_size attributes_at at after old new
attributes_some at first end after old new some small is one last after_is = record {
  later = omega (arith, is, one.later, after_is);
  next_is = λ few.
      let until : end < last_number = omega (arith, few, after_is) in
      omega (arith, is, after_is, one.later, one.next_is until, attributes_long old some);
  new_is = λ few.
      let until : end < last_number = omega (arith, few, after_is) in
      let here : first ≡ at + 1 = omega (arith, is, one.later, until) in
      one.new_is until ∙ ap (λ k. lines_at attr_at k old) here;
}

-- ---- parts with a body

pub part_none : (at end : ℕ) (b : PureStmts) → b ≡ Done → Walks part_size part_at at at (record { list = b; end = end }) (record { list = b; end = 0 })
part_none at end Done same = record { later = omega arith; next_is = λ few. omega arith; new_is = λ few. refl }
part_none at end (More s ss) same = absurd (cc)

pub part_long : (b : PureStmts) → (b ≡ Done → ⊥) → length (part_lines FProcessing b) ≡ length (stmts_lines b) + 2
part_long Done some = absurd (some refl)
part_long (More s ss) some = omega (arith, length-append (stmts_lines (More s ss)) (FEnd ∷ []))

pub part_some : (at first end after : ℕ) (old new : PureBody) → (old.list ≡ Done → ⊥) → at ≤ last_number → first ≡ min (at + 1) last_number → Walks body_size body_at first end old new
    → end ≤ last_number → after ≡ min (end + 1) last_number → Walks part_size part_at at after old new
part_some at first end after old new some small is one last after_is = record {
  later = omega (arith, is, one.later, after_is);
  next_is = λ few.
      let until : end < last_number = omega (arith, few, after_is) in
      omega (arith, is, after_is, one.later, one.next_is until, part_long old.list some);
  new_is = λ few.
      let until : end < last_number = omega (arith, few, after_is) in
      let here : first ≡ at + 1 = omega (arith, is, one.later, until) in
      one.new_is until ∙ ap (λ k. body_at k old) here;
}

-- each head is one line
pub part_same : (f g : Form) (b : PureStmts) → length (part_lines f b) ≡ length (part_lines g b)
part_same f g Done = refl
part_same f g (More s ss) = refl

-- ---- `initialize`

pub both_none : (r : Bool) (m n : ℕ) → r ≡ ((m == 0) && (n == 0)) → r ≡ true → (m ≡ 0) × (n ≡ 0)
both_none r m n is on = grind (arith, nat_tests)

pub one_some : (r : Bool) (m n : ℕ) → r ≡ ((m == 0) && (n == 0)) → r ≡ false → m ≡ 0 → n ≡ 0 → ⊥
one_some r m n is off first second = grind (arith, nat_tests)

pub beginning_none : (at end : ℕ) (initials : List Initial) (b : PureStmts) → length initials ≡ 0 → b ≡ Done
    → Walks beginning_size beginning_at at at (record { initials = initials; body = record { list = b; end = end } }) (record { initials = initials; body = record { list = b; end = 0 } })
beginning_none at end [] Done none same = record { later = omega arith; next_is = λ few. omega arith; new_is = λ few. refl }
beginning_none at end [] (More s ss) none same = absurd (cc)
beginning_none at end (x ∷ xs) b none same = absurd (omega arith)

pub beginning_long : (initials : List Initial) (b : PureStmts) → (length initials ≡ 0 → b ≡ Done → ⊥) → length (initialize_lines initials b) ≡ length initials + length (stmts_lines b) + 2
beginning_long [] Done some = absurd (some refl refl)
beginning_long [] (More s ss) some = omega (arith, length-append (stmts_lines (More s ss)) (FEnd ∷ []))
beginning_long (x ∷ xs) b some =
    omega (arith, length-append (map initial_line (x ∷ xs) ++ stmts_lines b) (FEnd ∷ []), length-append (map initial_line (x ∷ xs)) (stmts_lines b), length-map xs initial_line)

pub beginning_some : (at first middle end after : ℕ) (initials new_initials : List Initial) (body new_body : PureBody) → (length initials ≡ 0 → body.list ≡ Done → ⊥) → at ≤ last_number
    → first ≡ min (at + 1) last_number → Walks length (lines_at initial_at) first middle initials new_initials → Walks body_size body_at middle end body new_body
    → end ≤ last_number → after ≡ min (end + 1) last_number
    → Walks beginning_size beginning_at at after (record { initials = initials; body = body }) (record { initials = new_initials; body = new_body })
beginning_some at first middle end after initials new_initials body new_body some small is one two last after_is = record {
  later = omega (arith, is, one.later, two.later, after_is);
  next_is = λ few.
      let until : end < last_number = omega (arith, few, after_is) in
      let before : middle < last_number = omega (arith, until, two.later) in
      omega (arith, is, after_is, one.later, one.next_is before, two.next_is until, beginning_long initials body.list some);
  new_is = λ few.
      let until : end < last_number = omega (arith, few, after_is) in
      let before : middle < last_number = omega (arith, until, two.later) in
      let here : first ≡ at + 1 = omega (arith, is, one.later, before) in
      let there : middle ≡ at + 1 + length initials = omega (arith, here, one.next_is before) in
      ap (λ l. record { initials = l; body = new_body }) (one.new_is before ∙ ap (λ k. lines_at initial_at k initials) here)
      ∙ ap (λ b. record { initials = lines_at initial_at (at + 1) initials; body = b }) (two.new_is until ∙ ap (λ k. body_at k body) there);
}

-- ---- processes and blocks

pub process_long : (p : PureProcess) → process_size p ≡ 1 + length p.sensitive + dont_size p.starts + body_size p.body + 1
process_long p =
    omega (
      arith,
      length-append (map sense_line p.sensitive) (dont_lines p.starts ++ (stmts_lines p.body.list ++ FEnd ∷ [])),
      length-map p.sensitive sense_line,
      length-append (dont_lines p.starts) (stmts_lines p.body.list ++ FEnd ∷ []),
      length-append (stmts_lines p.body.list) (FEnd ∷ []),
    )

pub process_walks : (at first dont middle end after : ℕ) (old : PureProcess) (senses : List Sense) (body : PureBody) → at ≤ last_number → first ≡ min (at + 1) last_number
    → Walks length (lines_at sense_at) first dont old.sensitive senses → (dont ≤ middle) × (middle < last_number → middle ≡ dont + dont_size old.starts)
    → Walks body_size body_at middle end old.body body → end ≤ last_number → after ≡ min (end + 1) last_number
    → Walks process_size process_at at after old (record { line = at; sensitive = senses; starts = old.starts; body = body })
process_walks at first dont middle end after old senses body small is one skip two last after_is = record {
  later = omega (arith, is, one.later, skip.0, two.later, after_is);
  next_is = λ few.
      let until : end < last_number = omega (arith, few, after_is) in
      let before : middle < last_number = omega (arith, until, two.later) in
      let ahead : dont < last_number = omega (arith, before, skip.0) in
      omega (arith, is, after_is, one.later, one.next_is ahead, skip.1 before, two.next_is until, process_long old);
  new_is = λ few.
      let until : end < last_number = omega (arith, few, after_is) in
      let before : middle < last_number = omega (arith, until, two.later) in
      let ahead : dont < last_number = omega (arith, before, skip.0) in
      let here : first ≡ at + 1 = omega (arith, is, one.later, ahead) in
      let there : middle ≡ at + 1 + length old.sensitive + length (dont_lines old.starts) = omega (arith, here, one.next_is ahead, skip.1 before) in
      ap (λ l. record { line = at; sensitive = l; starts = old.starts; body = body }) (one.new_is ahead ∙ ap (λ k. lines_at sense_at k old.sensitive) here)
      ∙ ap (λ b. record { line = at; sensitive = lines_at sense_at (at + 1) old.sensitive; starts = old.starts; body = b }) (two.new_is until ∙ ap (λ k. body_at k old.body) there);
}

pub de_long : (b : PureDe) → de_size b ≡ 1 + length b.decls + processes_size b.processes + 1
de_long b =
    omega (
      arith,
      length-append (map de_line b.decls) (flat_map process_lines b.processes ++ FEnd ∷ []),
      length-map b.decls de_line,
      length-append (flat_map process_lines b.processes) (FEnd ∷ []),
    )

pub de_walks : (at first middle end after : ℕ) (old : PureDe) (decls : List PureDeLine) (processes : List PureProcess) → at ≤ last_number → first ≡ min (at + 1) last_number
    → Walks length (lines_at de_line_at) first middle old.decls decls → Walks processes_size (parts_at process_lines process_at) middle end old.processes processes
    → end ≤ last_number → after ≡ min (end + 1) last_number
    → Walks de_size de_at at after old (record { line = at; name = old.name; decls = decls; processes = processes })
de_walks at first middle end after old decls processes small is one two last after_is = record {
  later = omega (arith, is, one.later, two.later, after_is);
  next_is = λ few.
      let until : end < last_number = omega (arith, few, after_is) in
      let before : middle < last_number = omega (arith, until, two.later) in
      omega (arith, is, after_is, one.later, one.next_is before, two.next_is until, de_long old);
  new_is = λ few.
      let until : end < last_number = omega (arith, few, after_is) in
      let before : middle < last_number = omega (arith, until, two.later) in
      let here : first ≡ at + 1 = omega (arith, is, one.later, before) in
      let there : middle ≡ at + 1 + length old.decls = omega (arith, here, one.next_is before) in
      ap (λ l. record { line = at; name = old.name; decls = l; processes = processes }) (one.new_is before ∙ ap (λ k. lines_at de_line_at k old.decls) here)
      ∙ ap (λ l. record { line = at; name = old.name; decls = lines_at de_line_at (at + 1) old.decls; processes = l })
      (two.new_is until ∙ ap (λ k. parts_at process_lines process_at k old.processes) there);
}

pub composite_long : (b : PureComposite) → composite_size b ≡ 1 + length b.members + 1
composite_long b = omega (arith, length-append (map member_line b.members) (FEnd ∷ []), length-map b.members member_line)

pub composite_walks : (at first end after : ℕ) (old : PureComposite) (members : List Member) → at ≤ last_number → first ≡ min (at + 1) last_number
    → Walks length (lines_at member_at) first end old.members members → end ≤ last_number → after ≡ min (end + 1) last_number
    → Walks composite_size composite_at at after old (record { line = at; name = old.name; members = members })
composite_walks at first end after old members small is one last after_is = record {
  later = omega (arith, is, one.later, after_is);
  next_is = λ few.
      let until : end < last_number = omega (arith, few, after_is) in
      omega (arith, is, after_is, one.later, one.next_is until, composite_long old);
  new_is = λ few.
      let until : end < last_number = omega (arith, few, after_is) in
      let here : first ≡ at + 1 = omega (arith, is, one.later, until) in
      ap (λ l. record { line = at; name = old.name; members = l }) (one.new_is until ∙ ap (λ k. lines_at member_at k old.members) here);
}

-- the parts of a `tdf` block
pub tdf_long : (b : PureTdf) → tdf_size b ≡ 1 + length b.decls + attributes_size b.attrs + length (initialize_lines b.initials b.initialize.list)
    + part_size b.processing + part_size b.change + part_size b.reinitialize + 1
tdf_long b =
    let last = part_lines FReinitialize b.reinitialize.list ++ FEnd ∷ [] in
    let changes = part_lines FChangeAttributes b.change.list ++ last in
    let processing = part_lines FProcessing b.processing.list ++ changes in
    let initialize = initialize_lines b.initials b.initialize.list ++ processing in
    let attributes = attributes_lines b.attrs ++ initialize in
    omega (
      arith,
      length-append (map tdf_line b.decls) attributes,
      length-map b.decls tdf_line,
      length-append (attributes_lines b.attrs) initialize,
      length-append (initialize_lines b.initials b.initialize.list) processing,
      length-append (part_lines FProcessing b.processing.list) changes,
      length-append (part_lines FChangeAttributes b.change.list) last,
      length-append (part_lines FReinitialize b.reinitialize.list) (FEnd ∷ []),
      part_same FChangeAttributes FProcessing b.change.list,
      part_same FReinitialize FProcessing b.reinitialize.list,
    )

pub tdf_walks : (at first attributes initialize processing change reinitialize end after : ℕ) (old : PureTdf) (decls : List PureTdfLine) (attrs : List Attr) (initials : List Initial) (b c d e : PureBody)
    → at ≤ last_number → first ≡ min (at + 1) last_number
    → Walks length (lines_at tdf_line_at) first attributes old.decls decls
    → Walks attributes_size attributes_at attributes initialize old.attrs attrs
    → Walks beginning_size beginning_at initialize processing (record { initials = old.initials; body = old.initialize }) (record { initials = initials; body = b })
    → Walks part_size part_at processing change old.processing c
    → Walks part_size part_at change reinitialize old.change d
    → Walks part_size part_at reinitialize end old.reinitialize e
    → end ≤ last_number → after ≡ min (end + 1) last_number
    → Walks tdf_size tdf_at at after old
    (record old { line = at; decls = decls; attrs = attrs; initials = initials; initialize = b; processing = c; change = d; reinitialize = e })
tdf_walks at first attributes initialize processing change reinitialize end after old decls attrs initials b c d e small is one two three four five six last after_is = record {
  later = omega (arith, is, one.later, two.later, three.later, four.later, five.later, six.later, after_is);
  next_is = λ few.
      let n6 : end < last_number = omega (arith, few, after_is) in
      let n5 : reinitialize < last_number = omega (arith, n6, six.later) in
      let n4 : change < last_number = omega (arith, n5, five.later) in
      let n3 : processing < last_number = omega (arith, n4, four.later) in
      let n2 : initialize < last_number = omega (arith, n3, three.later) in
      let n1 : attributes < last_number = omega (arith, n2, two.later) in
      omega (arith, is, after_is, one.later, one.next_is n1, two.next_is n2, three.next_is n3, four.next_is n4, five.next_is n5, six.next_is n6, tdf_long old);
  new_is = λ few.
      let n6 : end < last_number = omega (arith, few, after_is) in
      let n5 : reinitialize < last_number = omega (arith, n6, six.later) in
      let n4 : change < last_number = omega (arith, n5, five.later) in
      let n3 : processing < last_number = omega (arith, n4, four.later) in
      let n2 : initialize < last_number = omega (arith, n3, three.later) in
      let n1 : attributes < last_number = omega (arith, n2, two.later) in
      let first_is : first ≡ at + 1 = omega (arith, is, one.later, n1) in
      let p1 : attributes ≡ at + 1 + length old.decls = omega (arith, first_is, one.next_is n1) in
      let p2 : initialize ≡ at + 1 + length old.decls + length (attributes_lines old.attrs) = omega (arith, p1, two.next_is n2) in
      let p3 : processing ≡ at + 1 + length old.decls + length (attributes_lines old.attrs) + length (initialize_lines old.initials old.initialize.list) = omega (arith, p2, three.next_is n3) in
      let p4 : change ≡ at + 1 + length old.decls + length (attributes_lines old.attrs) + length (initialize_lines old.initials old.initialize.list)
      + length (part_lines FProcessing old.processing.list) = omega (arith, p3, four.next_is n4) in
      let p5 : reinitialize ≡ at + 1 + length old.decls + length (attributes_lines old.attrs) + length (initialize_lines old.initials old.initialize.list)
      + length (part_lines FProcessing old.processing.list) + length (part_lines FChangeAttributes old.change.list) = omega (arith, p4, five.next_is n5, part_same FChangeAttributes FProcessing old.change.list) in
      let begun = three.new_is n3 in
      let decls_are = one.new_is n1 ∙ ap (λ k. lines_at tdf_line_at k old.decls) first_is in
      let attrs_are = two.new_is n2 ∙ ap (λ k. lines_at attr_at (k + 1) old.attrs) p1 in
      let initials_are = ap (λ (x : Beginning). x.initials) begun ∙ ap (λ k. lines_at initial_at (k + 1) old.initials) p2 in
      let begins = ap (λ (x : Beginning). x.body) begun ∙ ap (λ k. body_at (k + 1 + length old.initials) old.initialize) p2 in
      let processes = four.new_is n4 ∙ ap (λ k. body_at (k + 1) old.processing) p3 in
      let changes = five.new_is n5 ∙ ap (λ k. body_at (k + 1) old.change) p4 in
      let begins_again = six.new_is n6 ∙ ap (λ k. body_at (k + 1) old.reinitialize) p5 in
      λ i. record old {
        line = at;
        decls = decls_are i;
        attrs = attrs_are i;
        initials = initials_are i;
        initialize = begins i;
        processing = processes i;
        change = changes i;
        reinitialize = begins_again i;
      };
}
