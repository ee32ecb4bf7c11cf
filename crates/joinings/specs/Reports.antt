-- What the join program prints of a file whose contexts are joined. Assumes nothing.
--
--   bytes_of A printed xs           the letters of a text as bytes
--   Answer                          all that is printed of such a file, its text as bytes
--   answer_of k A printed n r f     the answer for a file of the kind k with n patterns and the run limit r
--   answered A printed r            the answer that the code's report says
--   shown a                         what is printed of an answer, line by line
use Rattle.std.specs.Prelude.{ℕ, List, [], ◌∷◌, ◌++◌, map, length, codes, Option}
use Rattle.models.specs.Alphabet.{Alphabet}
use Rattle.pages.specs.Pages.{labelled}
use Rattle.stations.specs.declared.Kind.{Kind}
use Rattle.headings.specs.Headings.{heading_lines, automaton_line}
use Rattle.joinings.specs.Findings.{Found, said_of}
use Rattle.joinings.specs.declared.report.Report.{Report}

abbrev pub bytes_of : {K : Type 0} → Alphabet K → (ℕ → ℕ) → List K → List ℕ
bytes_of A printed xs = map (λ x. printed (A.number x)) xs

pub record Answer : Type 0 where
  pub kind : Kind
  pub patterns : ℕ
  pub limit : Option ℕ
  pub states : ℕ
  pub memory : ℕ
  pub left : ℕ
  pub right : ℕ
  pub overlap : ℕ
  pub filled : ℕ
  pub text : List ℕ

abbrev pub answer_of : {K : Type 0} → Kind → Alphabet K → (ℕ → ℕ) → ℕ → Option ℕ → Found K → Answer
answer_of k A printed n r f = record {
  kind = k;
  patterns = n;
  limit = r;
  states = f.states;
  memory = f.memory;
  left = f.left;
  right = f.right;
  overlap = f.overlap;
  filled = f.filled;
  text = bytes_of A printed f.text;
}

abbrev pub answered : {K : Type 0} → Alphabet K → (ℕ → ℕ) → Report K → Answer
answered A printed r = answer_of r.heading.kind A printed r.heading.patterns r.heading.limit (said_of r.finding)

-- the contexts' letters, the overlap taken, the letters filled in, the text's length, and the text
abbrev pub joined_lines : ℕ → ℕ → ℕ → ℕ → List ℕ → List ℕ
joined_lines left right overlap filled text =
    labelled (codes "left: ") left (codes " letters\n") ++ (labelled (codes "right: ") right (codes " letters\n") ++ (labelled (codes "overlap: ") overlap (10 ∷ []) ++ (labelled (codes "filled: ") filled (10 ∷ [])
    ++ (labelled (codes "length: ") (length text) (10 ∷ []) ++ (text ++ (10 ∷ []))))))

abbrev pub shown : Answer → List ℕ
shown a =
    heading_lines a.kind a.patterns a.limit ++ (automaton_line a.states a.memory ++ joined_lines a.left a.right a.overlap a.filled a.text)
