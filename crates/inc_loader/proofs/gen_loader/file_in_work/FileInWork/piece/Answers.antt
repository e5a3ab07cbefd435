use Rattle.std.proofs.Common.{◌≡◌, ◌<◌, ◌+◌, ◌-◌, ℕ, List, [], ◌∙◌, ap, length, get_or, arith}
use Rattle.std.proofs.lemmas.List.{get_or_default}
use Rattle.inc_tree.specs.shape.Geometry.{Shape, blocks_of, data_blocks, hash_blocks, tree_of}
use Rattle.inc_tree.specs.content_tree.Root.{content_block}
use Rattle.inc_loader.specs.Content.{generated_content}
use Rattle.inc_loader.proofs.PieceLemmas.{among_blocks, length-area, next_data, next_hash}
use Rattle.inc_loader.proofs.gen_loader.file_in_work.FileInWork.piece.Goals as goal

pub bounds-as_slice-self : goal.bounds-as_slice-self
bounds-as_slice-self c =
    let work = c.args.self.now in
    omega (
      arith,
      c.if-self-hash_count.true,
      c.hash_blocks-hash_count.ensures.value,
      ap hash_blocks work.shape,
      length-area work.number work.file.size work.hash_blocks work.area,
      ap length c.as_slice.ensures.value,
    )

pub block_bytes-requires : goal.block_bytes-requires
block_bytes-requires c =
    let work = c.args.self.now in
    omega (
      arith,
      c.if-self-hash_count.false,
      c.hash_blocks-hash_count.ensures.value,
      ap hash_blocks work.shape,
      ap data_blocks work.shape,
      among_blocks work.file work.number work.file.size work.next c.requires,
    )

pub returns-then-self-hash_count : goal.returns-then-self-hash_count
returns-then-self-hash_count c =
    let work = c.args.self.now in
    let count : c.hash_blocks-hash_count.result ≡ hash_blocks (tree_of work.file.size) = c.hash_blocks-hash_count.ensures.value ∙ ap hash_blocks work.shape in
    let inside : work.next < hash_blocks (tree_of work.file.size) = omega arith in
    let long : length work.hash_blocks ≡ hash_blocks (tree_of work.file.size) = length-area work.number work.file.size work.hash_blocks work.area in
    let there : work.next < length c.as_slice.result.now = omega (arith, ap length c.as_slice.ensures.value) in
    let read : c.index-as_slice-self.result ≡ get_or work.hash_blocks work.next [] =
    c.index-as_slice-self.is ∙ get_or_default c.as_slice.result.now work.next c.index-as_slice-self.result [] there
    ∙ ap (λ (blocks : List (List ℕ)). get_or blocks work.next []) c.as_slice.ensures.value in
    record {
      first = rw c.piece_of.ensures.value (next_hash work.file work.number work.file.size work.next work.hash_blocks _ work.area inside
          (c.into_vec.ensures.value ∙ c.in_ok-block.ensures.value ∙ read));
    }

pub returns : goal.returns
returns c =
    let work = c.args.self.now in
    let count : c.hash_blocks-hash_count.result ≡ hash_blocks (tree_of work.file.size) = c.hash_blocks-hash_count.ensures.value ∙ ap hash_blocks work.shape in
    let k : ℕ = work.next - c.hash_blocks-hash_count.result in
    let place : work.next ≡ hash_blocks (tree_of work.file.size) + k = omega (arith, c.if-self-hash_count.false) in
    let inside : k < blocks_of work.file.size = omega (arith, among_blocks work.file work.number work.file.size work.next c.requires) in
    record {
      first = rw c.piece_of-2.ensures.value (next_data work.file work.number work.file.size k work.next _ place inside
          (c.in_ok-bytes.ensures.value ∙ ap (λ (shape : Shape). content_block (generated_content work.number shape.size) k) work.shape));
    }
