mod PutLemmas
